-- Parts laid out at rising places, with zeros in the gaps: as one list of bytes, and as a reader finds
-- the byte at each place.
use Rattle.std.specs.Prelude.{◌+◌, ◌-◌, ◌≤◌, ℕ, Option, Some, None, List, [], ◌∷◌, ◌++◌, length, replicate, slice_get}
use Rattle.std.specs.Prelude.{nat_lt, if◌then◌else◌}

-- bytes, and the place of the first
pub record Placed : Type 0 where
  pub place : ℕ
  pub bytes : List ℕ

abbrev pub zeros : ℕ → List ℕ
zeros n = replicate n 0

-- all of them, from place `at` on
abbrev pub laid : ℕ → List Placed → List ℕ
laid at [] = []
laid at (s ∷ more) = zeros (s.place - at) ++ (s.bytes ++ laid (s.place + length s.bytes) more)

-- the byte at place p: a part's byte, 0 before a part, None after the last
abbrev pub unit_at : List Placed → ℕ → Option ℕ
unit_at [] p = None
unit_at (s ∷ more) p =
    if nat_lt p s.place then Some 0 else
    if nat_lt p (s.place + length s.bytes) then slice_get s.bytes (p - s.place) else
    unit_at more p

-- each part begins no earlier than the one before it ends, the first no earlier than at `at`
abbrev pub Rising : ℕ → List Placed → Type 0
Rising at [] = Unit {0}
Rising at (s ∷ more) = (at ≤ s.place) × Rising (s.place + length s.bytes) more

-- where the last part ends; `at` if there is none
abbrev pub end_of : ℕ → List Placed → ℕ
end_of at [] = at
end_of at (s ∷ more) = end_of (s.place + length s.bytes) more
