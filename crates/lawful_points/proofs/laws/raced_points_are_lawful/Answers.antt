use Rattle.lawful_points.proofs.Racing.{raced_points}
use Rattle.lawful_points.proofs.laws.raced_points_are_lawful.Goals as goal

pub returns : goal.returns
returns c = λ l fuel lines transcript raced thread own said at found.
    raced_points l fuel lines transcript raced thread own said at found
