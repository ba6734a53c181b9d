use Rattle.std.proofs.Common.{take}
use Rattle.commands.proofs.MadeFiles.{FindAlike}
use Rattle.commands.proofs.generated.files_of.Given as goal

abbrev pub invariant-loop-object : goal.invariant-loop-object
invariant-loop-object l = FindAlike l.files (take l.object-index l.objects)
