use Rattle.tls_symbols.proofs.FirstFaults.{NoneBelow}
use Rattle.tls_symbols.proofs.duplicates.first_duplicate.Given as goal

-- the objects so far have none
abbrev pub invariant-loop-index : goal.invariant-loop-index
invariant-loop-index l = NoneBelow l.names.objects.now l.index
