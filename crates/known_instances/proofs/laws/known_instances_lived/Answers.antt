use Rattle.known_instances.proofs.Known.{known_lived}
use Rattle.known_instances.proofs.laws.known_instances_lived.Goals as goal

pub returns : goal.returns
returns c = known_lived
