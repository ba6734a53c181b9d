-- The ids of the images so far.
use Rattle.std.proofs.Common.{take}
use Rattle.module_table.specs.Start.{MarksIds}
use Rattle.module_table.proofs.start.ids_of.Given as goal

abbrev pub invariant-loop-module : goal.invariant-loop-module
invariant-loop-module l = MarksIds l.ids.word (take l.module-index l.modules)
