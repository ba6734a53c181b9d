use Rattle.std.proofs.Common.{take}
use Rattle.std.specs.List.{All}
use Rattle.race_tests.specs.Plain.{IsPlainImage}
use Rattle.race_tests.proofs.Fitting.{AreOfKind}
use Rattle.race_tests.proofs.loading.are_modules.Given as goal

-- the images so far
abbrev pub invariant-loop-index : goal.invariant-loop-index
invariant-loop-index l = AreOfKind l.index l.asked l.images × All IsPlainImage (take l.index l.images)
