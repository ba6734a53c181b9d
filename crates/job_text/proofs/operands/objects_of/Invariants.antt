use Rattle.std.proofs.Common.{◌≡◌, ◌++◌, drop}
use Rattle.job_text.proofs.operands.objects_of.Given as goal

-- the names so far, and then those that are left
abbrev pub invariant-loop-index : goal.invariant-loop-index
invariant-loop-index l = l.names ++ drop l.index l.words ≡ drop 3 l.words
