use Rattle.held_alike.proofs.Looks.{looks_keep}
use Rattle.held_alike.proofs.laws.looks_keep_held.Goals as goal

pub returns : goal.returns
returns c = looks_keep
