use Rattle.begin_alike.proofs.Begins.{events_one}
use Rattle.begin_alike.proofs.laws.events_are_one.Goals as goal

pub returns : goal.returns
returns c = events_one
