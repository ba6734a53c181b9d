use Rattle.lawful_points.proofs.Jobs.{points_lawful}
use Rattle.lawful_points.proofs.laws.points_are_lawful.Goals as goal

pub returns : goal.returns
returns c = λ l fuel lines order transcript told thread own said at found.
    points_lawful l fuel lines order transcript told thread own said at found
