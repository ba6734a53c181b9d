-- The least number with a property.
use Rattle.std.specs.Prelude.{◌<◌, ℕ, Option, Some, None}

-- the least number at which P holds, or that it holds at none
abbrev pub IsFirstAt : (ℕ → Type 0) → Option ℕ → Type 0
IsFirstAt P None = (e : ℕ) → P e → ⊥
IsFirstAt P (Some e) = P e × ((f : ℕ) → f < e → P f → ⊥)
