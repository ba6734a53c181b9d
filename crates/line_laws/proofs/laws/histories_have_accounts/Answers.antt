use Rattle.line_laws.proofs.Accounts.{have_accounts}
use Rattle.line_laws.proofs.laws.histories_have_accounts.Goals as goal

pub returns : goal.returns
returns c = have_accounts
