use Rattle.binding_laws.proofs.Undefined.{unbound_undefined}
use Rattle.binding_laws.proofs.laws.unbound_is_undefined.Goals as goal

pub returns : goal.returns
returns c = unbound_undefined
