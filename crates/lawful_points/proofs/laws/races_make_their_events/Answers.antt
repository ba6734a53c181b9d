use Rattle.lawful_points.proofs.Events.{races_make}
use Rattle.lawful_points.proofs.laws.races_make_their_events.Goals as goal

pub returns : goal.returns
returns c = λ l fuel lines transcript raced. races_make l fuel lines transcript raced
