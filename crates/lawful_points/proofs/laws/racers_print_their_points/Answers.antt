use Rattle.lawful_points.proofs.Printed.{racers_print}
use Rattle.lawful_points.proofs.laws.racers_print_their_points.Goals as goal

pub returns : goal.returns
returns c = λ l fuel thread own history said racer. racers_print l fuel thread own history said racer
