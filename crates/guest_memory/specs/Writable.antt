-- Which range takes a byte that is written.
use Rattle.std.specs.Prelude.{ℕ, zero, suc, List, [], ◌∷◌, if◌then◌else◌}
use Rattle.guest_operands.specs.declared.space.Access.TheVariants.{Write}
use Rattle.guest_operands.specs.Ranges.{Range, grants}

-- the index of the first range that may be written at a place, or the number of ranges if none may
abbrev pub first_writable : {B : Type 0} → List (Range B) → ℕ → ℕ
first_writable [] place = 0
first_writable (range ∷ ranges) place = if grants Write range place then zero else suc (first_writable ranges place)
