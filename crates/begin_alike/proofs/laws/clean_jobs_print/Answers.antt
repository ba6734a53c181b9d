use Rattle.begin_alike.proofs.Worlds.{jobs_print}
use Rattle.begin_alike.proofs.laws.clean_jobs_print.Goals as goal

pub returns : goal.returns
returns c = jobs_print
