-- How fields are read and written, as laws say it.
use Rattle.std.specs.Prelude.{◌≡◌, ◌<◌, ◌+◌, ◌^◌, ℕ, Option, Some, None, List, [], ◌∷◌, length}
use Rattle.std.specs.Prelude.{nat_le, if◌then◌else◌}
use Rattle.std.specs.List.{All}
use Rattle.elf_records.specs.Fields.{number_at}

-- bytes are numbers below 256
abbrev pub AreBytes : List ℕ → Type 0
AreBytes bytes = All (λ (byte : ℕ). byte < 256) bytes

-- what a reader of records of this size returns: None exactly where the record would pass the
-- end, else the record there
abbrev pub IsReadAt : {R : Type 0} → ℕ → (ℕ → List ℕ → R) → List ℕ → ℕ → Option R → Type 0
IsReadAt size record_at bytes at result =
    result ≡ (if nat_le (at + size) (length bytes) then Some (record_at at bytes) else None)

-- how many bytes a row of fields takes
abbrev pub width : List (ℕ × ℕ) → ℕ
width [] = 0
width (f ∷ fs) = f.0 + width fs

-- each value fits its field
abbrev pub FitAll : List (ℕ × ℕ) → Type 0
FitAll [] = Unit {0}
FitAll (f ∷ fs) = (f.1 < 256 ^ f.0) × FitAll fs

-- a row of fields reads as their values, from k bytes past `at` on
abbrev pub Reads : ℕ → ℕ → List (ℕ × ℕ) → List ℕ → Type 0
Reads at k [] bytes = Unit {0}
Reads at k (f ∷ fs) bytes = (number_at f.0 (at + k) bytes ≡ f.1) × Reads at (k + f.0) fs bytes
