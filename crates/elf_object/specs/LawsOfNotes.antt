-- What callers may rely on in what is noted of an object's relocations.
use Rattle.std.proofs.Common.{◌≡◌, ◌+◌, ◌-◌, ◌<◌, ◌≤◌, inl, inr, ℕ, zero, suc, Bool, true, false, List, [], nat_lt}
use Rattle.std.proofs.Common.{refl}
use Rattle.std.proofs.Common.{sym, ap, ◌∙◌, subst, arith, if◌then◌else◌}
use Rattle.std.specs.List.{flat_map, list_any, range_with_len, Contains}
use Rattle.std.proofs.lemmas.Bool.{cases_lt}
use Rattle.std.proofs.lemmas.List.Concat.{flat_map-cons}
use Rattle.std.proofs.lemmas.List.Elements.{Contains-append_left, Contains-append_right}
use Rattle.std.proofs.lemmas.List.Folds.{list_any_at}
use Rattle.elf_object.specs.declared.relocation.Relocation.{Relocation}
use Rattle.elf_object.specs.Laws.{table_of_kept}
use Rattle.elf_object.specs.Lent.{kept_relocation_table, relocations, relocations_in}
use Rattle.elf_object.specs.Noted.{all_relocations}
use Rattle.elf_object.specs.Object.{section_count}

-- what a number of the range has is among what all of them have
in_range : {X : Type 0} (f : ℕ → List X) (a n t : ℕ) (x : X) → a ≤ t → t < a + n → Contains (f t) x
    → Contains (flat_map f (range_with_len a n)) x
in_range f a zero t x low high has = absurd (omega (arith, low, high))
in_range f a (suc n) t x low high has =
    subst (λ all. Contains all x) (sym (flat_map-cons f a (range_with_len (a + 1) n)))
    (elim (cases_lt a t) [
      | inl above ↦
          Contains-append_right (f a) (flat_map f (range_with_len (a + 1) n)) x
          (in_range f (a + 1) n t x (omega (arith, above)) (omega (arith, high)) has)
      | inr below ↦
          let same : t ≡ a = omega (arith, low, below) in
          Contains-append_left (f a) (flat_map f (range_with_len (a + 1) n)) x (subst (λ s. Contains (f s) x) same has)
    ])

-- a section without a table of relocations has none
table_of : (b : List ℕ) (t : ℕ) (r : Relocation) → Contains (relocations b t) r → 0 < kept_relocation_table b t
unfolding relocations_in
table_of b t r has =
    let table = kept_relocation_table b t in
    elim (cases_lt 0 table) [
      | inl some ↦ some
      | inr none ↦
          let null : table ≡ 0 = omega (arith, none) in
          absurd (nothing table _ null has)
    ]
  where
    nothing : (table : ℕ) (found : List Relocation) → table ≡ 0 → Contains (if nat_lt 0 table then found else []) r → ⊥
    nothing zero found null has = omega (arith, has.1)
    nothing (suc n) found null has = omega (arith, null)

-- each relocation of a section is one of the object's
pub every_relocation : (b : List ℕ) (t : ℕ) (r : Relocation) → Contains (relocations b t) r
    → Contains (all_relocations b) r
unfolding all_relocations
every_relocation b t r has =
    let is = (table_of_kept b t (table_of b t r has)).0.0 in
    in_range (relocations b) 1 (section_count b - 1) t r (omega (arith, is.0)) (omega (arith, is.0, is.1)) has

-- where none passes a test, each fails it
pub each_fails : {X : Type 0} (p : X → Bool) (xs : List X) (x : X) → list_any p xs ≡ false → Contains xs x → p x ≡ false
each_fails p xs x none has = of (p x) refl
  where
    apart : true ≡ false → ⊥
    apart e = cc

    of : (t : Bool) → p x ≡ t → t ≡ false
    of false is = refl
    of true is = absurd (apart (sym (list_any_at p xs has.0 x has.1 (ap p has.2 ∙ is)) ∙ none))
