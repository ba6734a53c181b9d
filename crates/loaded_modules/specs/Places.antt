-- Relocations by their places.
use Rattle.std.specs.Prelude.{◌≡◌, ◌<◌, ◌≤◌, ℕ, List, Some, slice_get}
use Rattle.image_file.specs.declared.relocation.ImageRelocation.{ImageRelocation}

-- the first `n` relocations have their places below an address
abbrev pub AllBelow : List ImageRelocation → ℕ → ℕ → Type 0
AllBelow relocations n address =
    (k : ℕ) (r : ImageRelocation) → k < n → slice_get relocations k ≡ Some r → r.place < address

-- no relocation from a number on has its place below the address
abbrev pub NoneBelow : List ImageRelocation → ℕ → ℕ → Type 0
NoneBelow relocations n address =
    (k : ℕ) (r : ImageRelocation) → n ≤ k → slice_get relocations k ≡ Some r → address ≤ r.place
