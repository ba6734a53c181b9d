use Rattle.std.proofs.Common.{◌<◌, ℕ}
use Rattle.image_faults.specs.Fields.{IsWrongIdent}
use Rattle.image_faults.proofs.headers.first_wrong_ident.Given as goal

abbrev pub invariant-loop-index : goal.invariant-loop-index
invariant-loop-index l = (k : ℕ) → k < l.index → IsWrongIdent l.header k → ⊥
