use Rattle.begin_alike.proofs.Worlds.{jobs_stay}
use Rattle.begin_alike.proofs.laws.jobs_stay_alike.Goals as goal

pub returns : goal.returns
returns c = jobs_stay
