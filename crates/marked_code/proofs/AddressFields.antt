-- An address field that is an instruction's displacement, and what is read through it.
use Rattle.std.proofs.Common.{◌≡◌, ℕ, ◌-◌, ◌≤◌, ◌⊎◌, inl, inr, Bool, true, false, List, take, drop, Option, Some, None}
use Rattle.std.proofs.Common.{refl, sym, ap, subst, ◌∙◌, arith}
use Rattle.std.specs.Prelude.{not, ◌&&◌, ◌==◌, ℤ}
use Rattle.std.proofs.lemmas.Bool.{eqb-true}
use Rattle.amd64_subset.specs.declared.operand.Memory.{Memory}
use Rattle.amd64_subset.specs.Spelling.{field_of}
use Rattle.guest_operands.specs.Frame.{field_at}
use Rattle.guest_operands.specs.Use.{plus}
use Rattle.job_meaning.proofs.Reading.{picked}
use Rattle.whole_meaning.specs.declared.marks.Mark.{Mark}
use Rattle.whole_meaning.specs.declared.marks.Mark.TheVariants.{Usual, Offset, Address, Inside}
use Rattle.whole_meaning.specs.Fields.{address_at, field_address, is_from_next, reads_next, starts_offset}
use Rattle.marked_code.proofs.Fields.{field_in, starts_field}

-- what is read is relative to the next instruction
pub next-operand : (o : Option Memory) → reads_next o ≡ true
    → (memory : Memory) × ((o ≡ Some memory) × ((is_from_next memory.base && not memory.from_thread_pointer) ≡ true))
next-operand None e = absurd cc
next-operand (Some memory) e = (memory, (refl, e))

module _ (mark : ℕ → Mark) (here : ℕ) where
  -- an address field begins at the displacement
  pub record AddressIn (o : Option ℕ) : Type 0 where
    pub at : ℕ
    pub number : ℕ
    pub addend : ℤ
    pub is : o ≡ Some at
    pub marked : mark (plus here at) ≡ Address number addend 0
    pub stands : address_at mark here o ≡ Some number

  -- or none does
  pub record NoAddressIn (o : Option ℕ) : Type 0 where
    pub none : address_at mark here o ≡ None
    pub never : (at number : ℕ) (addend : ℤ) → o ≡ Some at → mark (plus here at) ≡ Address number addend 0 → ⊥

  pub address_in : (o : Option ℕ) → AddressIn o ⊎ NoAddressIn o
  address_in None = inr (record { none = refl; never = λ at number addend e f. absurd cc })
  address_in (Some at) = by_mark (mark (plus here at)) refl
    where
      other : (μ : Mark) → mark (plus here at) ≡ μ → field_address μ ≡ None
          → ((number : ℕ) (addend : ℤ) → μ ≡ Address number addend 0 → ⊥) → NoAddressIn (Some at)
      other μ e n h = record {
        none = ap field_address e ∙ n;
        never = λ k number addend f g. let same : at ≡ k = cc in
            h number addend (sym e ∙ subst (λ (j : ℕ). mark (plus here j) ≡ Address number addend 0) (sym same) g);
      }

      by_mark : (μ : Mark) → mark (plus here at) ≡ μ → AddressIn (Some at) ⊎ NoAddressIn (Some at)
      by_mark Usual e = inr (other Usual e refl (λ number addend f. absurd cc))
      by_mark (Offset number byte) e = inr (other (Offset number byte) e refl (λ n a f. absurd cc))
      by_mark Inside e = inr (other Inside e refl (λ number addend f. absurd cc))
      by_mark (Address number addend byte) e = by_byte (byte == 0) refl
        where
          by_byte : (b : Bool) → (byte == 0) ≡ b → AddressIn (Some at) ⊎ NoAddressIn (Some at)
          by_byte true f =
              let first : mark (plus here at) ≡ Address number addend 0 =
              e ∙ ap (λ (j : ℕ). Address number addend j) (eqb-true byte 0 f) in
              inl (record {
                at = at;
                number = number;
                addend = addend;
                is = refl;
                marked = first;
                stands = ap field_address first;
              })
          by_byte false f = inr (other (Address number addend byte) e (rw f refl)
              (λ n a g. let zeroth : byte ≡ 0 = cc in let never : true ≡ false =
              subst (λ (j : ℕ). (j == 0) ≡ false) zeroth f in absurd cc))

  -- no offset field begins there
  pub no-offset : (o : Option ℕ) (at number : ℕ) (addend : ℤ) → o ≡ Some at
      → mark (plus here at) ≡ Address number addend 0
      → field_at (λ place. starts_offset (mark place)) here o ≡ None
  no-offset None at number addend is marked = refl
  no-offset (Some j) at number addend is marked =
      let there : j ≡ at = cc in
      let never : starts_offset (mark (plus here j)) ≡ false =
      ap (λ (i : ℕ). starts_offset (mark (plus here i))) there ∙ ap starts_offset marked in
      rw never refl

  -- the number that is read in its place is what its four bytes hold
  pub picked-at : (o : Option ℕ) (at number n : ℕ) (addend : ℤ) (ys : List ℕ) → o ≡ Some at
      → mark (plus here at) ≡ Address number addend 0
      → picked (field_in mark here starts_field o) ys n ≡ field_of (take 4 (drop at ys))
  picked-at None at number n addend ys is marked = absurd cc
  picked-at (Some j) at number n addend ys is marked =
      let there : j ≡ at = cc in
      let begins : starts_field (mark (plus here j)) ≡ true =
      ap (λ (i : ℕ). starts_field (mark (plus here i))) there ∙ ap starts_field marked in
      rw begins (ap (λ (i : ℕ). field_of (take 4 (drop i ys))) there)

-- from the end of the instruction, or from so many bytes behind the field, it is one address
pub sums : (p p' at len x x' : ℕ) → p ≡ p' → at ≤ len → x' ≡ x
    → plus (plus (plus x' (plus p' len)) 0) 0 ≡ plus (plus (plus p at) (len - at)) x
sums p p' at len x x' e low f = omega arith
