use Rattle.known_instances.proofs.Live.{startup_stays}
use Rattle.known_instances.proofs.laws.startup_instances_stay.Goals as goal

pub returns : goal.returns
returns c = startup_stays
