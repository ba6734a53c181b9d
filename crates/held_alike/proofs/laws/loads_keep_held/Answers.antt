use Rattle.held_alike.proofs.Looks.{loads_keep}
use Rattle.held_alike.proofs.laws.loads_keep_held.Goals as goal

pub returns : goal.returns
returns c = loads_keep
