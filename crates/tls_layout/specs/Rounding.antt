-- Rounding up to an alignment (gABI, "Sections": `sh_addralign`; Drepper, section 3: `round`).
use Rattle.std.specs.Prelude.{◌≡◌, ◌*◌, ◌≤◌, ℕ}
use Rattle.std.specs.Int.{next_multiple_of}

-- the least multiple of an alignment at or above n
unfoldable pub round_up : ℕ → ℕ → ℕ
round_up n alignment = next_multiple_of n alignment

-- n is a multiple of an alignment
abbrev pub IsMultiple : ℕ → ℕ → Type 0
IsMultiple n alignment = (q : ℕ) × (n ≡ alignment * q)

-- r is the least multiple of an alignment at or above n
pub record IsLeastMultiple (n alignment r : ℕ) : Type 0 where
  pub multiple : IsMultiple r alignment
  pub above : n ≤ r
  pub least : (m : ℕ) → IsMultiple m alignment → n ≤ m → r ≤ m

-- the first page that begins at or after n
unfoldable pub page_up : ℕ → ℕ
page_up n = round_up n 4096
