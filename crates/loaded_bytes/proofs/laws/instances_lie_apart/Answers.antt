use Rattle.loaded_bytes.proofs.Apart.{lie_apart}
use Rattle.loaded_bytes.proofs.laws.instances_lie_apart.Goals as goal

pub returns : goal.returns
returns c = lie_apart
