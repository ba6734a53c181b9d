use Rattle.closed_jobs.proofs.LocalCode.{says_the_same}
use Rattle.closed_jobs.proofs.laws.local_code_says_the_same.Goals as goal

pub returns : goal.returns
returns c = says_the_same
