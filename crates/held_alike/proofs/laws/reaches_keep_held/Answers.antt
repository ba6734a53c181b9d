use Rattle.held_alike.proofs.Looks.{reaches_keep}
use Rattle.held_alike.proofs.laws.reaches_keep_held.Goals as goal

pub returns : goal.returns
returns c = reaches_keep
