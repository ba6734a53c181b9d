use Rattle.image_names.specs.Meanings.{TellsWith}
use Rattle.image_names.proofs.table.meanings_of.Given as goal

-- with the symbols that are left, the table tells what it is to tell
abbrev pub invariant-loop-number : goal.invariant-loop-number
invariant-loop-number l = TellsWith l.image l.number l.meanings.entries
