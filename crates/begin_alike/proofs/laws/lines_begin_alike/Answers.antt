use Rattle.begin_alike.proofs.Begins.{lines_begin}
use Rattle.begin_alike.proofs.laws.lines_begin_alike.Goals as goal

pub returns : goal.returns
returns c = lines_begin
