use Rattle.closed_jobs.proofs.LocalSites.{is_tied}
use Rattle.closed_jobs.proofs.laws.local_code_is_tied.Goals as goal

pub returns : goal.returns
returns c = is_tied
