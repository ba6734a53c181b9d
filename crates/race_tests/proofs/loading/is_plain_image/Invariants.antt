use Rattle.std.proofs.Common.{take}
use Rattle.std.specs.List.{All}
use Rattle.race_tests.specs.Plain.{IsPlain}
use Rattle.race_tests.proofs.loading.is_plain_image.Given as goal

-- the relocations so far
abbrev pub invariant-loop-number : goal.invariant-loop-number
invariant-loop-number l = All IsPlain (take l.number l.image.relocations)
