-- Texts in string tables: each ends at its first zero byte (gABI, "String Table").
use Rattle.std.specs.Prelude.{◌≡◌, ◌≢◌, ◌==◌, ◌+◌, ◌-◌, ◌<◌, ◌≤◌, ℕ, List, drop, slice_index}
use Rattle.std.specs.List.{before_first}

-- the text of a string table from an offset up to the first zero byte
unfoldable pub text_at : List ℕ → ℕ → List ℕ
text_at table at = before_first (λ byte. byte == 0) (drop at table)

-- in the string table of this size that begins at `from`, a zero byte stands at offset `at` or after it, so a text
-- that begins there ends
abbrev pub Ends : List ℕ → ℕ → ℕ → ℕ → Type 0
Ends b from size at = (k : ℕ) × (at ≤ k) × (k < size) × (slice_index b (from + k) ≡ 0)

-- n is the offset after the last zero byte of that table, or 0 if it has none
pub record IsNamesEnd (b : List ℕ) (from size n : ℕ) : Type 0 where
  pub inside : n ≤ size
  pub zero_before : 0 < n → slice_index b (from + (n - 1)) ≡ 0
  pub none_after : (k : ℕ) → n ≤ k → k < size → slice_index b (from + k) ≢ 0
