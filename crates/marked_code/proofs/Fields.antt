-- Fields in code: where one begins, in an instruction or at a place, and which bytes of an instruction it has.
use Rattle.std.proofs.Common.{◌≡◌, ℕ, zero, suc, ◌-◌, ◌<◌, ◌≤◌, ◌⊎◌, Bool, true, false, ◌==◌, Option, Some, None, refl}
use Rattle.std.proofs.Common.{sym, subst, arith}
use Rattle.std.specs.Prelude.{if◌then◌else◌, ℤ, IfSome}
use Rattle.std.proofs.lemmas.Bool.{eqb-true}
use Rattle.amd64_subset.specs.declared.instr.Decoded.{Decoded}
use Rattle.amd64_subset.specs.Spelling.{HasField}
use Rattle.guest_machine.specs.Use.{plus}
use Rattle.job_meaning.specs.Reading.{is_at, place_at}
use Rattle.job_meaning.proofs.Fetch.{place-is}
use Rattle.job_meaning.proofs.Reading.{IsIn, InField}
use Rattle.whole_meaning.specs.declared.marks.Mark.{Mark}
use Rattle.whole_meaning.specs.declared.marks.Mark.TheVariants.{Usual, Offset, Address, Inside}
use Rattle.whole_meaning.specs.Fields.{starts_offset}

-- a field of either kind begins there
abbrev pub starts_field : Mark → Bool
starts_field Usual = false
starts_field (Offset number byte) = byte == 0
starts_field (Address number addend byte) = byte == 0
starts_field Inside = false

-- a byte of a field is one of four
abbrev pub IsSmall : Mark → Type 0
IsSmall Usual = Unit {0}
IsSmall (Offset number byte) = byte < 4
IsSmall (Address number addend byte) = byte < 4
IsSmall Inside = Unit {0}

-- a place behind an instruction's first byte
pub place-behind : (k here : ℕ) → 0 < k → place_at here k ≡ plus here k
place-behind zero here some = absurd (omega arith)
place-behind (suc k) here some = place-is k here

module _ (mark : ℕ → Mark) (here : ℕ) where
  -- where a field begins in an instruction that the linker fills in
  abbrev pub field_in : (Mark → Bool) → Option ℕ → Option ℕ
  field_in starts None = None
  field_in starts (Some k) = if starts (mark (plus here k)) then Some k else None

  pub field_in-is : (starts : Mark → Bool) (o : Option ℕ) → IsIn (field_in starts o) o
  field_in-is starts None = tt
  field_in-is starts (Some k) =
      (elim (starts (mark (plus here k))) as (λ b. IsIn (if b then Some k else None) (Some k))
      [ true ↦ refl | false ↦ tt ])

  pub field_in-at : (starts : Mark → Bool) (o : Option ℕ) (len at : ℕ) → IfSome o (HasField len) → is_at o at ≡ true
      → starts (mark (place_at here at)) ≡ true → field_in starts o ≡ Some at
  field_in-at starts None len at h e f = absurd cc
  field_in-at starts (Some j) len zero h e f = let same : zero ≡ j = sym (eqb-true j zero e) in
      absurd (omega (arith, h.0, same))
  field_in-at starts (Some j) len (suc at) h e f =
      let same : suc at ≡ j = sym (eqb-true j (suc at) e) in
      let begins : starts (mark (plus here (suc at))) ≡ true =
      subst (λ (p : ℕ). starts (mark p) ≡ true) (place-is at here) f in
      subst (λ (n : ℕ). field_in starts (Some n) ≡ Some (suc at)) same (rw begins refl)

  -- a byte of a field has the field's first byte before it
  pub record AreFields : Type 0 where
    pub small : (k : ℕ) → k < 15 → IsSmall (mark (place_at here k))
    pub offset : (k number byte : ℕ) → k < 15 → mark (place_at here k) ≡ Offset number byte → byte ≤ k
        → mark (place_at here (k - byte)) ≡ Offset number 0
    pub address : (k number byte : ℕ) (addend : ℤ) → k < 15 → mark (place_at here k) ≡ Address number addend byte
        → byte ≤ k
        → mark (place_at here (k - byte)) ≡ Address number addend 0

  -- byte k of an instruction is one of a field
  abbrev pub InFields : Decoded → ℕ → Type 0
  InFields d k = InField (field_in starts_field d.disp) k ⊎ InField (field_in starts_offset d.imm) k

  -- and an instruction was read whose field it is
  pub record Covered (it : Option Decoded) (k : ℕ) : Type 0 where
    pub instruction : Decoded
    pub is : it ≡ Some instruction
    pub covers-it : InFields instruction k
