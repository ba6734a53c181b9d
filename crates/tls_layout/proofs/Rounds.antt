-- Rounding up, powers of two, and the offsets of startup modules.
use Rattle.std.proofs.Common.{◌≡◌, ℕ, ◌+◌, ◌-◌, ◌*◌, ◌/◌, ◌%◌, ◌^◌, ◌<◌, ◌≤◌, List, [], ◌∷◌, ◌++◌, length, slice_index}
use Rattle.std.proofs.Common.{All, below_more, get_or, refl, sym, ap, ◌∙◌, arith, add-one, inl, inr}
use Rattle.std.proofs.Math.Nat.{pow-le-pow_right, div-add-mod, mod_self, mod-eq_of_lt, mod-lt, mul-le-mul_left}
use Rattle.std.proofs.Math.Nat.{mul-add-mod_self_left}
use Rattle.std.proofs.lemmas.Bool.{cases_lt}
use Rattle.std.proofs.lemmas.Nat.{pow_pos, pow-add}
use Rattle.std.proofs.lemmas.List.{get_or_default, get_or_append_left, get_or_push}
use Rattle.elf_records.specs.Alignments.{IsAlignment}
use Rattle.tls_layout.specs.declared.statics.TlsSize.{TlsSize}
use Rattle.tls_layout.specs.Rounding.{round_up, IsMultiple, IsLeastMultiple}
use Rattle.tls_layout.specs.Statics.{tls_offset, tls_of, no_tls, IsTlsSize}

-- rounding never goes down
pub round_up-above : (n a : ℕ) → n ≤ round_up n a
unfolding round_up
round_up-above n a = omega arith

pub round_up-near : (n a : ℕ) → 0 < a → round_up n a < n + a
unfolding round_up
round_up-near n a positive = omega (arith, mod-lt (a - n % a) positive)

pub round_up-multiple : (n a : ℕ) → 0 < a → IsMultiple (round_up n a) a
unfolding round_up
round_up-multiple n a positive =
    let split = div-add-mod n a in
    let rest = mod-lt n positive in
    elim (cases_lt 0 (n % a)) [
      | inl some ↦
          let small : a - n % a < a = omega arith in
          (n / a + 1, rw (mod-eq_of_lt small) (omega arith))
      | inr none ↦
          let zero : n % a ≡ 0 = omega arith in
          let full : a - 0 ≡ a = omega arith in
          (n / a, rw (zero, full, mod_self a) (omega arith))
    ]

-- it gives the least multiple at or above a number
pub least_multiple : (n a : ℕ) → 0 < a → IsLeastMultiple n a (round_up n a)
least_multiple n a positive = record {
  multiple = round_up-multiple n a positive;
  above = round_up-above n a;
  least = λ m is above. least (round_up-multiple n a positive).0 is.0 m (round_up-multiple n a positive).1 is.1 above;
}
  where
    least : (t q m : ℕ) → round_up n a ≡ a * t → m ≡ a * q → n ≤ m → round_up n a ≤ m
    least t q m is e above = elim (cases_lt q t) [
      | inl more ↦
          let next : a * (q + 1) ≤ a * t = mul-le-mul_left a (omega arith) in
          let near = round_up-near n a positive in
          omega arith
      | inr fewer ↦ let le : a * t ≤ a * q = mul-le-mul_left a fewer in omega arith
    ]

-- from a multiple of the alignment on, rounding is as from 0 on
pub round_up-add : (q n a : ℕ) → round_up (a * q + n) a ≡ a * q + round_up n a
unfolding round_up
round_up-add q n a = rw (mul-add-mod_self_left a q n) (omega arith)

-- an alignment divides a page
pub power_divides : (a : ℕ) → IsAlignment a → (m : ℕ) × (4096 ≡ a * m)
power_divides a power =
    let le = power.1 in
    let whole : power.0 + (12 - power.0) ≡ 12 = omega arith in
    let e : 2 ^ 12 ≡ 2 ^ power.0 * 2 ^ (12 - power.0) = ap (λ n. 2 ^ n) (sym whole)
    ∙ pow-add 2 power.0 (12 - power.0) in
    (2 ^ (12 - power.0), rw power.2 e)

-- a power of two is positive, and those of alignments are small
pub power_bounds : (n : ℕ) → IsAlignment n → (0 < n) × (n ≤ 4096)
power_bounds n h =
    let e = h.2 in
    let le : 2 ^ h.0 ≤ 2 ^ 12 = pow-le-pow_right (omega arith) h.1 in
    let pos = pow_pos h.0 in
    (omega arith, omega arith)

-- the next module's offset
pub tls_offset-next : (sizes : List TlsSize) (m : ℕ)
    → tls_offset sizes (m + 1) ≡ round_up (tls_offset sizes m + (tls_of sizes m).size) (tls_of sizes m).alignment
unfolding tls_offset
tls_offset-next sizes m = rw add-one refl

pub tls_offset-more : (sizes : List TlsSize) (m last r : ℕ) (d : TlsSize) → m < length sizes → last ≡ tls_offset sizes m
    → r ≡ round_up (last + (get_or sizes m d).size) (get_or sizes m d).alignment → r ≡ tls_offset sizes (m + 1)
tls_offset-more sizes m last r d l e p = rw (tls_offset-next sizes m, get_or_default sizes m no_tls d l, ← e) p

pub tls_offset_small : (sizes : List TlsSize) (m last r : ℕ) (d : TlsSize) → m < length sizes → All IsTlsSize sizes
    → last ≤ m * 2 ^ 21
    → r < (last + (get_or sizes m d).size) + (get_or sizes m d).alignment → r ≤ (m + 1) * 2 ^ 21
tls_offset_small sizes m last r d l ordinary h near =
    let is = ordinary m d l in
    let bounds = power_bounds (get_or sizes m d).alignment is.1 in
    omega (arith, is.0, bounds.1)

-- one more number at the end of a list
pub numbers_more : (xs : List ℕ) (x i : ℕ) (f : ℕ → ℕ) → length xs ≡ i → ((m : ℕ) → m < i → slice_index xs m ≡ f m)
    → x ≡ f i
    → (m : ℕ) → m < i + 1 → slice_index (xs ++ x ∷ []) m ≡ f m
numbers_more xs x i f e below here =
    below_more _ _ (λ m h. get_or_append_left xs (x ∷ []) 0 m (omega arith) ∙ below m h) (get_or_push xs x 0 i e ∙ here)
