use Rattle.lawful_points.proofs.Jobs.{lines_tell}
use Rattle.lawful_points.proofs.laws.lines_tell_looks.Goals as goal

pub returns : goal.returns
returns c = λ l fuel lines order transcript told thread own said at found.
    lines_tell l fuel lines order transcript told thread own said at found
