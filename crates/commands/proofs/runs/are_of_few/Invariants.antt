use Rattle.std.proofs.Common.{take}
use Rattle.std.specs.List.{All}
use Rattle.commands.specs.InOrder.{IsOfFew}
use Rattle.commands.proofs.runs.are_of_few.Given as goal

abbrev pub invariant-loop-image : goal.invariant-loop-image
invariant-loop-image l = All IsOfFew (take l.image-index l.images)
