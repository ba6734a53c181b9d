use Rattle.begin_alike.proofs.Firsts.{jobs_start}
use Rattle.begin_alike.proofs.laws.jobs_start_alike.Goals as goal

pub returns : goal.returns
returns c = jobs_start
