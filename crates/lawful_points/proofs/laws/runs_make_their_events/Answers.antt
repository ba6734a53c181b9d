use Rattle.lawful_points.proofs.Events.{runs_make}
use Rattle.lawful_points.proofs.laws.runs_make_their_events.Goals as goal

pub returns : goal.returns
returns c = λ l fuel lines order transcript tells. runs_make l fuel lines order transcript tells
