use Rattle.meaning_laws.proofs.Settings.{same_verdict}
use Rattle.meaning_laws.proofs.laws.verdict_knows_no_setting.Goals as goal

pub returns : goal.returns
returns c = same_verdict
