-- Marks on the bytes of a target say which fields cover them, entry after entry.
use Rattle.std.proofs.Common.{◌≡◌, ◌+◌, ◌<◌, ◌≤◌, ◌⊎◌, ◌↔◌, ◌∙◌, ℕ, List, slice_index, sym, subst, inl, inr, arith}
use Rattle.std.proofs.lemmas.Bool.{cases_lt}
use Rattle.object_rules.specs.declared.fault.FaultKind.TheVariants.{RelocRange, RelocOverlap}
use Rattle.object_faults.specs.Parts.{section, rela}
use Rattle.object_faults.specs.Relocations.{Covers, IsReloc, width_at}
use Rattle.object_faults.specs.Faults.{Stands, NoneBelow}

-- a byte has the mark s exactly where one of the first n fields covers it
abbrev pub AreMarked : List ℕ → ℕ → ℕ → List ℕ → Type 0
AreMarked b s n marks = (k : ℕ) → (slice_index marks k ≡ s) ↔ ((f : ℕ) × (f < n) × Covers b s f k)

-- a field covers a byte, or it does not
covers_or_not : (b : List ℕ) (s e k : ℕ) → Covers b s e k ⊎ (Covers b s e k → ⊥)
covers_or_not b s e k = between (rela b s e).offset ((rela b s e).offset + width_at b s e) k
  where
    between : (from to k : ℕ) → ((from ≤ k) × (k < to)) ⊎ ((from ≤ k) × (k < to) → ⊥)
    between from to k = grind arith

-- the field of entry e had a marked byte
pub overlap_found : (b : List ℕ) (s e : ℕ) (old : List ℕ) → IsReloc b s e → AreMarked b s e old
    → (k : ℕ) × Covers b s e k × (slice_index old k ≡ s) → Stands RelocOverlap b s e
unfolding Stands
overlap_found b s e old reloc marked had =
    let earlier = (marked had.0).0 had.2 in
    (reloc, (earlier.0, earlier.1, (had.0, earlier.2, had.1)))

-- it had none
pub overlap_none : (b : List ℕ) (s e : ℕ) (old : List ℕ) → AreMarked b s e old
    → ((k : ℕ) × Covers b s e k × (slice_index old k ≡ s) → ⊥) → Stands RelocOverlap b s e → ⊥
unfolding Stands
overlap_none b s e old marked none h =
    let k = h.1.2.0 in
    none (k, h.1.2.2, (marked k).1 (h.1.0, h.1.1, h.1.2.1))

-- one field more is marked
pub marked_more : (b : List ℕ) (s e : ℕ) (old new : List ℕ) → AreMarked b s e old
    → ((k : ℕ) → Covers b s e k → slice_index new k ≡ s)
    → ((k : ℕ) → (Covers b s e k → ⊥) → slice_index new k ≡ slice_index old k) → AreMarked b s (e + 1) new
marked_more b s e old new marked within outside k =
    elim (covers_or_not b s e k) [
      | inl covers ↦ (λ _. (e, omega arith, covers), λ _. within k covers)
      | inr bare ↦ (
        λ has. let before = (marked k).0 (sym (outside k bare) ∙ has) in (before.0, omega (arith, before.1), before.2),
        λ by.
            let P : ℕ → Type 0 = λ x. Covers b s x k in
            let apart : by.0 ≡ e → ⊥ = λ same. bare (subst P same by.2) in
            outside k bare ∙ (marked k).1 (by.0, omega (arith, by.1), by.2),
      )
    ]

-- marks stay at most s
pub marks_below : (b : List ℕ) (s e : ℕ) (old new : List ℕ) → ((k : ℕ) → slice_index old k < s + 1)
    → ((k : ℕ) → Covers b s e k → slice_index new k ≡ s)
    → ((k : ℕ) → (Covers b s e k → ⊥) → slice_index new k ≡ slice_index old k) → (k : ℕ) → slice_index new k < s + 1
marks_below b s e old new below within outside k =
    elim (covers_or_not b s e k) [
      | inl covers ↦ omega (arith, within k covers)
      | inr bare ↦ omega (arith, outside k bare, below k)
    ]

-- the kind stands at relocations alone
pub at_overlap : (b : List ℕ) (s e : ℕ) → Stands RelocOverlap b s e → IsReloc b s e
unfolding Stands
at_overlap b s e h = h.0

-- where no field passes the end of its target, marks for the target have room for each
pub room_of : (b : List ℕ) (r e n : ℕ) → NoneBelow 16 b → IsReloc b r e → (section b (section b r).info).size ≤ n
    → (rela b r e).offset + width_at b r e ≤ n
unfolding Stands
room_of b r e n below reloc size =
    elim (cases_lt (section b (section b r).info).size ((rela b r e).offset + width_at b r e)) [
      | inl past ↦ absurd (below RelocRange (omega arith) r e (reloc, past))
      | inr inside ↦ omega arith
    ]
