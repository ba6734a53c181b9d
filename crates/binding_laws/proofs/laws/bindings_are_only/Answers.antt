use Rattle.binding_laws.proofs.Bindings.{bindings_only}
use Rattle.binding_laws.proofs.laws.bindings_are_only.Goals as goal

pub returns : goal.returns
returns c = bindings_only
