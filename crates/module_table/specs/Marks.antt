-- A set of module ids from 1 to 64, as the bits of a word: bit k stands for the id k + 1.
use Rattle.std.specs.Prelude.{◌≡◌, ◌≤◌, ◌<◌, ◌+◌, ◌-◌, ◌==◌, ℕ, if◌then◌else◌}
use Rattle.std.specs.Int.{bit_at}

-- an id is not in the set
pub record HasRoom (word : ℕ) : Type 0 where
  pub bit : ℕ
  pub within : bit < 64
  pub clear : bit_at word bit ≡ 0

abbrev pub AddsId : ℕ → ℕ → ℕ → Type 0
AddsId old id new = (k : ℕ) → k < 64 → bit_at new k ≡ (if (k + 1) == id then 1 else bit_at old k)

abbrev pub RemovesId : ℕ → ℕ → ℕ → Type 0
RemovesId old id new = (k : ℕ) → k < 64 → bit_at new k ≡ (if (k + 1) == id then 0 else bit_at old k)

pub record IsLeastAbsent (word id : ℕ) : Type 0 where
  pub low : 1 ≤ id
  pub high : id ≤ 64
  pub absent : bit_at word (id - 1) ≡ 0
  pub least : (k : ℕ) → k + 1 < id → bit_at word k ≡ 1
