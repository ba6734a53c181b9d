-- Alignments.
use Rattle.std.specs.Prelude.{◌≡◌, ◌≤◌, ◌^◌, ℕ}

-- a power of two up to 4,096, the size of a page
abbrev pub IsAlignment : ℕ → Type 0
IsAlignment n = (k : ℕ) × (k ≤ 12) × (n ≡ 2 ^ k)
