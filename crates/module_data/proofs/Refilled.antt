-- Bytes that are written over others, as many.
use Rattle.std.proofs.Common.{◌≡◌, ◌∙◌, ℕ, List, length, take, drop, ◌++◌, arith}
use Rattle.std.proofs.lemmas.List.{take-append-le, take_all}

pub refilled_same : (old new : List ℕ) → length new ≡ length old
    → take (length old) (new ++ drop (length new) old) ≡ new
refilled_same old new same =
    take-append-le (length old) new (drop (length new) old) (omega (arith, same))
    ∙ take_all (length old) new (omega (arith, same))
