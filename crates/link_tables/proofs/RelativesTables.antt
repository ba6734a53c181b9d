-- The relocations of one section: no two 8-byte fields share a byte, and a section that has any has an address.
use Rattle.std.proofs.Common.{◌≡◌, ◌≢◌, ◌+◌, ◌<◌, ◌≤◌, ◌⊎◌, ◌∙◌, ℕ, suc, Bool, true, false, List, [], ◌∷◌}
use Rattle.std.proofs.Common.{length, get_or, Option, Some, None, IsSome, inl, inr, refl, sym, subst, arith}
use Rattle.std.specs.Prelude.{nat_lt, if◌then◌else◌}
use Rattle.std.specs.List.{All}
use Rattle.std.proofs.lemmas.Bool.{cases_lt}
use Rattle.std.proofs.lemmas.Bool.Decides.{nat_tests}
use Rattle.std.proofs.lemmas.List.Elements.{All-from_get_or}
use Rattle.std.proofs.lemmas.Option.{slice_get-get_or}
use Rattle.object_faults.specs.declared.class.SectionClass.{SectionClass}
use Rattle.object_faults.specs.declared.class.SectionClass.TheVariants.{Tls}
use Rattle.object_rules.specs.declared.fault.FaultKind.TheVariants.{RelocTarget}
use Rattle.elf_records.specs.declared.relocation.RelocationKind.TheVariants.{Absolute64}
use Rattle.elf_object.specs.declared.relocation.Relocation.{Relocation}
use Rattle.elf_object.specs.Classes.{kept_class, IsKeptSection}
use Rattle.elf_object.specs.Faults.{Stands, IsObject}
use Rattle.elf_object.specs.Laws.{table_of_kept}
use Rattle.elf_object.specs.LawsOfParts.{class_of_section}
use Rattle.elf_object.specs.LawsOfSections.{class_holds}
use Rattle.elf_object.specs.Lent.{section_class, kept_relocation_table, relocations, relocations_in, relocations_from}
use Rattle.elf_object.specs.Parts.{section, entry_count, IsRela}
use Rattle.sequence_match.specs.Code.{AreApart}
use Rattle.sequence_match.specs.Sites.{Covers}

-- ** the fields

-- of two fields of 8 bytes one ends where the other begins, or before
abbrev pub IsApart : Relocation → Relocation → Type 0
IsApart x y = x.kind ≡ Absolute64 → y.kind ≡ Absolute64 → (x.offset + 8 ≤ y.offset) ⊎ (y.offset + 8 ≤ x.offset)

wide : (x : Relocation) (k : ℕ) → x.kind ≡ Absolute64 → x.offset ≤ k → k < x.offset + 8 → Covers x k
wide x k absolute low high = (low, rw absolute high)

first_byte : (x : Relocation) → x.kind ≡ Absolute64 → Covers x x.offset
first_byte x absolute = wide x x.offset absolute (omega arith) (omega arith)

apart : (x y : Relocation) → ((k : ℕ) → Covers x k → Covers y k → ⊥) → IsApart x y
apart x y never of_x of_y = elim (cases_lt y.offset (x.offset + 8)) [
  | inr behind ↦ inl behind
  | inl less ↦ elim (cases_lt x.offset (y.offset + 8)) [
    | inr behind ↦ inr behind
    | inl more ↦ elim (cases_lt x.offset y.offset) [
      | inl first ↦ absurd (never y.offset (wide x y.offset of_x (omega arith) less) (first_byte y of_y))
      | inr next ↦ absurd (never x.offset (first_byte x of_x) (wide y x.offset of_y next more))
    ]
  ]
]

-- the first shares no byte with another
pub apart_first : (x : Relocation) (more : List Relocation) → AreApart (x ∷ more) → All (IsApart x) more
apart_first x more never = All-from_get_or (IsApart x) more x (λ i below.
    apart x (get_or more i x) (λ k first next.
    never 0 (suc i) k x (get_or more i x) refl (slice_get-get_or more i x below) (omega arith) first next))

-- the others share no byte either
pub apart_rest : (x : Relocation) (more : List Relocation) → AreApart (x ∷ more) → AreApart more
apart_rest x more never e f k y z first next less covers again =
    never (suc e) (suc f) k y z first next (omega arith) covers again

-- ** the section

-- a section that an image holds
pub record IsPlaced (b : List ℕ) (t : ℕ) : Type 0 where
  pub class : SectionClass
  pub class_is : section_class b t ≡ Some class
  pub other : class ≢ Tls false

pub none_listed : (b : List ℕ) (at n : ℕ) → n ≡ 0 → length (relocations_from b at 0 n) ≡ 0
unfolding relocations_from
none_listed b at n none = rw none refl

-- where it has bytes, its table has entries
pub some_bytes : (b : List ℕ) (r : ℕ)
    → 0 < length (relocations_from b (section b r).offset 0 (entry_count (section b r)))
    → (section b r).size ≢ 0
some_bytes b r some none =
    let empty : entry_count (section b r) ≡ 0 = rw none refl in
    omega (arith, none_listed b (section b r).offset (entry_count (section b r)) empty)

is_placed : (b : List ℕ) → IsObject b → (t : ℕ) → IsKeptSection b t → ((section b t).kind ≢ 8) → IsPlaced b t
is_placed b object t kept bits = of_class (kept_class (section b t)) refl kept.1
  where
    of_class : (class : Option SectionClass) → kept_class (section b t) ≡ class → IsSome class → IsPlaced b t
    of_class None is some = absurd (cc)
    of_class (Some class) is some = record {
      class = class;
      class_is = class_of_section b t kept.0 ∙ is;
      other = λ zero. bits ((class_holds (section b t) class is).1 (rw zero refl));
    }

of_table : (b : List ℕ) → IsObject b → (r : ℕ) → IsRela b r → IsKeptSection b (section b r).info
    → (section b r).size ≢ 0 → IsPlaced b (section b r).info
unfolding Stands
of_table b object r rela kept some = is_placed b object (section b r).info kept (λ empty.
    object RelocTarget r 0 (refl, rela, inr (kept, inr (inr (inr (inl (empty, some)))))))

-- a section with relocations is one
pub placed_section : (b : List ℕ) → IsObject b → (t : ℕ) → 0 < length (relocations b t) → IsPlaced b t
unfolding relocations_in
placed_section b object t some =
    let r = kept_relocation_table b t in
    let xs = relocations_from b (section b r).offset 0 (entry_count (section b r)) in
    let is = listed r xs some in
    let table = table_of_kept b t is.0 in
    let K : ℕ → Type 0 = λ x. IsKeptSection b x in
    subst (IsPlaced b) table.2
    (of_table b object r table.1 (subst K (sym table.2) table.0) (some_bytes b r is.1))
  where
    listed : (r : ℕ) (xs : List Relocation) → 0 < length (if nat_lt 0 r then xs else []) → (0 < r) × (0 < length xs)
    listed r xs h = of_test (nat_lt 0 r) refl h
      where
        of_test : (t : Bool) → nat_lt 0 r ≡ t → 0 < length (if t then xs else []) → (0 < r) × (0 < length xs)
        of_test true e h = (grind (arith, nat_tests), h)
        of_test false e h = absurd (omega arith)
