-- One walk over the relocations: what it goes by has no fault, and fields that rise share no byte.
use Rattle.std.proofs.Common.{◌≡◌, ◌+◌, ◌<◌, ◌≤◌, ◌⊎◌, ◌↔◌, ◌&&◌, ℕ, zero, suc, List, Bool, IsTrue, nat_le, inl, inr}
use Rattle.std.proofs.Common.{refl, sym, subst, arith}
use Rattle.std.proofs.lemmas.Bool.Decides.{nat_tests}
use Rattle.object_rules.specs.declared.fault.FaultKind.TheVariants.{RelocOverlap}
use Rattle.object_faults.specs.Parts.{section, rela, entry_count, IsRela}
use Rattle.object_faults.specs.Classes.{IsKeptSection}
use Rattle.object_faults.specs.Relocations.{IsReloc}
use Rattle.object_faults.specs.Faults.{Stands, NoneBelow}
use Rattle.object_faults.specs.Walks.{IsFaulty, IsFaultless, end_at, Rise, HasRoomToMark}
use Rattle.object_faults.proofs.Overlaps.{room_of}

-- an entry that is at fault is a relocation
pub at_faulty : (b : List ℕ) (r e : ℕ) → IsFaulty b r e → IsReloc b r e
unfolding Stands
at_faulty b r e h = elim h [
  | inl symbol ↦ symbol.0
  | inr other ↦ elim other [ inl kind ↦ kind.0 | inr range ↦ range.0 ]
]

-- a section without relocations has none at fault, and they rise
pub none_to_walk : (b : List ℕ) (r : ℕ) → ((e : ℕ) → IsReloc b r e → ⊥) → IsFaultless b r × Rise b r
none_to_walk b r none = (λ e h. none e (at_faulty b r e h), λ e reloc. absurd (none (e + 1) reloc))

-- the first n fields of section r rise
abbrev pub RiseBelow : List ℕ → ℕ → ℕ → Type 0
RiseBelow b r n = (e : ℕ) → e + 1 < n → end_at b r e ≤ (rela b r (e + 1)).offset

-- `end` is where the field before number n ends, 0 before the first
abbrev pub IsEndBefore : List ℕ → ℕ → ℕ → ℕ → Type 0
IsEndBefore b r n end = (n ≡ 0 → end ≡ 0) × ((e : ℕ) → n ≡ e + 1 → end_at b r e ≡ end)

-- and then where that field ends
pub end_of_field : (b : List ℕ) (r n end : ℕ) → end ≡ end_at b r n → IsEndBefore b r (n + 1) end
end_of_field b r n end here = (
  λ none. absurd (omega arith),
  λ e same.
      let P : ℕ → Type 0 = λ x. end_at b r x ≡ end in
      subst P (omega (arith, same)) (sym here),
)

-- one field more rises where it begins no earlier than the one before it ended
rise_more : (b : List ℕ) (r n end : ℕ) → IsEndBefore b r n end → RiseBelow b r n → end ≤ (rela b r n).offset
    → RiseBelow b r (n + 1)
rise_more b r n end before risen here e below =
    elim (cases_of (e + 1) n below) [
      | inl lt ↦ risen e lt
      | inr same ↦
          let P : ℕ → Type 0 = λ x. end_at b r e ≤ (rela b r x).offset in
          subst P (sym same) (omega (arith, before.1 e (sym same), here))
    ]
  where
    cases_of : (m n : ℕ) → m < n + 1 → (m < n) ⊎ (m ≡ n)
    cases_of m n h = grind arith

-- and nowhere else
rise_last : (b : List ℕ) (r n end : ℕ) → IsEndBefore b r n end → RiseBelow b r (n + 1) → end ≤ (rela b r n).offset
rise_last b r n end before risen =
    elim (zero_or_more n) [
      | inl none ↦ omega (arith, before.0 none)
      | inr some ↦
          let m = some.0 in
          let P : ℕ → Type 0 = λ x. end_at b r m ≤ (rela b r x).offset in
          let here : end_at b r m ≤ (rela b r n).offset = subst P (sym some.1) (risen m (omega (arith, some.1))) in
          omega (arith, before.1 m some.1, here)
    ]
  where
    zero_or_more : (n : ℕ) → (n ≡ 0) ⊎ ((m : ℕ) × (n ≡ m + 1))
    zero_or_more zero = inl refl
    zero_or_more (suc m) = inr (m, omega arith)

-- so a test that they rise goes on by one comparison
pub rises_on : (b : List ℕ) (r n end : ℕ) (t : Bool) (start : ℕ) → start ≡ (rela b r n).offset → IsEndBefore b r n end
    → IsTrue t ↔ RiseBelow b r n → IsTrue (t && nat_le end start) ↔ RiseBelow b r (n + 1)
rises_on b r n end t start at before known = (
  λ yes.
      let both = of_and t end start yes in
      rise_more b r n end before (known.0 both.0) (omega (arith, both.1, at)),
  λ risen.
      let here = rise_last b r n end before risen in
      to_and t end start (known.1 (λ e below. risen e (omega arith))) (omega (arith, here, at)),
)
  where
    of_and : (t : Bool) (m n : ℕ) → IsTrue (t && nat_le m n) → IsTrue t × (m ≤ n)
    of_and t m n h = grind (arith, nat_tests)

    to_and : (t : Bool) (m n : ℕ) → IsTrue t → m ≤ n → IsTrue (t && nat_le m n)
    to_and t m n h below = grind (arith, nat_tests)

-- what the walk found at the end of n entries, all that there are
pub all_fine : (b : List ℕ) (r n : ℕ) → n ≡ entry_count (section b r) → ((e : ℕ) → e < n → IsFaulty b r e → ⊥)
    → IsFaultless b r
all_fine b r n all fine e h = let reloc = at_faulty b r e h in fine e (omega (arith, reloc.2, all)) h

pub has_risen : (b : List ℕ) (r n : ℕ) → n ≡ entry_count (section b r) → RiseBelow b r n → Rise b r
has_risen b r n all risen e reloc = risen e (omega (arith, reloc.2, all))

pub rises_to : (b : List ℕ) (r n : ℕ) → n ≡ entry_count (section b r) → IsRela b r × IsKeptSection b (section b r).info
    → Rise b r → RiseBelow b r n
rises_to b r n all kept rise e below = rise e (kept.0, kept.1, omega (arith, below, all))

-- where the fields rise, each ends before any later one begins
risen_to : (b : List ℕ) (r f e : ℕ) → Rise b r → f < e → IsReloc b r e → end_at b r f ≤ (rela b r e).offset
risen_to b r f zero rise before reloc = absurd (omega arith)
risen_to b r f (suc m) rise before reloc =
    let here = step b r m (suc m) (omega arith) rise reloc in
    elim (cases_of f m before) [
      | inl lt ↦
          let earlier = risen_to b r f m rise lt (reloc.0, reloc.1, omega (arith, reloc.2)) in
          omega (arith, earlier, here)
      | inr same ↦
          let P : ℕ → Type 0 = λ x. end_at b r x ≤ (rela b r (suc m)).offset in
          subst P (sym same) here
    ]
  where
    cases_of : (f m : ℕ) → f < suc m → (f < m) ⊎ (f ≡ m)
    cases_of f m h = grind arith

    step : (b : List ℕ) (r m x : ℕ) → x ≡ m + 1 → Rise b r → IsReloc b r x → end_at b r m ≤ (rela b r x).offset
    step b r m x same rise reloc =
        let P : ℕ → Type 0 = λ y. IsReloc b r y in
        let Q : ℕ → Type 0 = λ y. end_at b r m ≤ (rela b r y).offset in
        subst Q (sym same) (rise m (subst P same reloc))

-- fields that rise share no byte
pub apart : (b : List ℕ) (r e : ℕ) → Rise b r → Stands RelocOverlap b r e → ⊥
unfolding Stands
apart b r e rise h =
    let f = h.1.0 in
    let before = risen_to b r f e rise h.1.1 h.0 in
    omega (arith, before, h.1.2.1.1, h.1.2.2.0)

-- where no byte needs a mark, no fields share one
pub none_to_mark : (b : List ℕ) (r e : ℕ) → NoneBelow 16 b → HasRoomToMark b r 0 → Stands RelocOverlap b r e → ⊥
unfolding Stands
none_to_mark b r e below room h =
    let size = room e h.0 (λ rise. apart b r e rise h) in
    omega (arith, size, room_of b r e 0 below h.0 size, h.1.2.2.0, h.1.2.2.1)
