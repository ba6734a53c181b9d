-- One bit of a word, set and cleared; the lowest that is clear.
use Rattle.std.proofs.Common.{◌≡◌, ℕ, ◌+◌, ◌-◌, ◌*◌, ◌%◌, ◌^◌, ◌<◌, ◌≤◌, arith, inl, inr, w64}
use Rattle.std.specs.Prelude.{bit_and, bit_or}
use Rattle.std.specs.Int.{bit_at, bit_not, trailing_ones}
use Rattle.std.proofs.lemmas.Bool.{cases_eq, cases_lt, eq-eqb, ne_eqb}
use Rattle.std.proofs.lemmas.Nat.Bits.{bit_at_set_same, bit_at_set_other, bit_at_clear_same, bit_at_clear_other}
use Rattle.std.proofs.lemmas.Nat.Bits.{bit_at-trailing_ones, bit_at_ones}
use Rattle.module_table.specs.Marks.{AddsId, RemovesId, IsLeastAbsent, HasRoom}

pub adds : (word id : ℕ) → 1 ≤ id → id ≤ 64 → AddsId word id (bit_or word (1 * 2 ^ (id - 1) % 2 ^ 64))
adds word id low high k l = elim (cases_eq (k + 1) id) [
  | inl e ↦ let at : k ≡ id - 1 = omega arith in
      rw (eq-eqb (k + 1) id e, at) (bit_at_set_same w64 word (id - 1) (omega arith))
  | inr ne ↦ rw (ne_eqb (k + 1) id ne) (bit_at_set_other w64 word (id - 1) (omega arith) k (λ h. ne (omega arith)))
]

pub removes : (word id : ℕ) → 1 ≤ id → id ≤ 64
    → RemovesId word id (bit_and word (bit_not w64 (1 * 2 ^ (id - 1) % 2 ^ 64)))
removes word id low high k l = elim (cases_eq (k + 1) id) [
  | inl e ↦ let at : k ≡ id - 1 = omega arith in
      rw (eq-eqb (k + 1) id e, at) (bit_at_clear_same w64 word (id - 1) (omega arith))
  | inr ne ↦ rw (ne_eqb (k + 1) id ne) (bit_at_clear_other w64 word (id - 1) (omega arith) k l (λ h. ne (omega arith)))
]

not_full : (word : ℕ) → HasRoom word → word < 2 ^ 64 → word + 1 < 2 ^ 64
not_full word room fits = elim (cases_lt (word + 1) (2 ^ 64)) [
  | inl l ↦ l
  | inr h ↦ let full : word ≡ 2 ^ 64 - 1 = omega arith in
      let one : bit_at word room.bit ≡ 1 = rw full (bit_at_ones 64 room.bit room.within) in
      absurd (omega (arith, room.clear))
]

pub least_absent : (word : ℕ) → HasRoom word → word < 2 ^ 64 → IsLeastAbsent word (trailing_ones w64 word + 1)
least_absent word room fits =
    let at = bit_at-trailing_ones w64 word (not_full word room fits) in
    let within : trailing_ones w64 word < 64 = at.0 in
    record {
      low = omega arith;
      high = omega arith;
      absent = let e : trailing_ones w64 word + 1 - 1 ≡ trailing_ones w64 word = omega arith in rw e at.1;
      least = λ k l. at.2 k (omega arith);
    }
