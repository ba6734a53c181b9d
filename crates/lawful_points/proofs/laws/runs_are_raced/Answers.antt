use Rattle.lawful_points.proofs.Racing.{runs_raced}
use Rattle.lawful_points.proofs.laws.runs_are_raced.Goals as goal

pub returns : goal.returns
returns c = λ l fuel lines order transcript none tells. runs_raced l fuel lines order transcript none tells
