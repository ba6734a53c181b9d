-- What is numbered from 1 in the order of a list, as images and threads are.
use Rattle.std.specs.Prelude.{ℕ, zero, suc, List, slice_get, Option, None}

-- what has a number; nothing at 0 and past the last
abbrev pub at_number : {X : Type 0} → List X → ℕ → Option X
at_number xs zero = None
at_number xs (suc i) = slice_get xs i
