use Rattle.closed_jobs.proofs.Reopened.{says_the_same}
use Rattle.closed_jobs.proofs.laws.reopened_says_the_same.Goals as goal

pub returns : goal.returns
returns c = says_the_same
