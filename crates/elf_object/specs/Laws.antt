-- What callers may rely on of an object that was read.
use Rattle.std.specs.Prelude.{◌≡◌, ◌+◌, ◌*◌, ◌<◌, ◌≤◌, ◌^◌, ◌⊎◌, ◌&&◌, ℕ, zero, suc, List, [], length, Option, Some}
use Rattle.std.specs.Prelude.{None, IsSome, is_some, is_none, Bool, true, false, nat_lt, if◌then◌else◌}
use Rattle.std.proofs.Common.{inl, inr, refl, sym, ap, subst, arith}
use Rattle.std.proofs.lemmas.Bool.{cases_lt}
use Rattle.std.proofs.lemmas.Bool.Decides.{nat_tests}
use Rattle.object_rules.specs.declared.fault.FaultKind.TheVariants.{TooLarge}
use Rattle.object_faults.specs.declared.class.SectionClass.{SectionClass}
use Rattle.elf_object.specs.declared.relocation.Relocation.{Relocation}
use Rattle.elf_object.specs.Parts.{header, section, is_section, symbol_table, symbol_count, relocation_table}
use Rattle.elf_object.specs.Parts.{entry_count, IsTable, IsRela, IsSection}
use Rattle.elf_object.specs.Classes.{kept_class, IsKeptSection}
use Rattle.elf_object.specs.Lent.{section_class, relocations_from, relocations_in, relocations, kept_relocation_table}
use Rattle.elf_object.specs.Object.{IsOfData, IsWritable}
use Rattle.elf_object.specs.Faults.{Stands, IsObject}
use Rattle.elf_object.specs.Searches.{table_is, relocates_is}

-- a section that linking keeps has a section number, and its class
pub kept_is : (b : List ℕ) (s : ℕ) → is_none (section_class b s) ≡ false
    → IsKeptSection b s × (section_class b s ≡ kept_class (section b s))
unfolding section_class
kept_is b s h = kept_of (is_section b s) (kept_class (section b s)) (IsSection b s)
    (λ t. of_section s (header b).e_shnum t) h
  where
    of_section : (s n : ℕ) → (nat_lt 0 s && nat_lt s n) ≡ true → (0 < s) × (s < n)
    of_section s n h = grind (arith, nat_tests)

    kept_of : (t : Bool) (class : Option SectionClass) (P : Type 0) → (t ≡ true → P)
        → is_none (if t then class else None) ≡ false
        → (P × IsSome class) × ((if t then class else None) ≡ class)
    kept_of true (Some c) P p h = ((p refl, refl), refl)
    kept_of true None P p h = absurd (cc)
    kept_of false class P p h = absurd (cc)

-- the section that holds the relocations of another one
pub holds_relocations : (b : List ℕ) (t : ℕ) → 0 < relocation_table b t
    → IsRela b (relocation_table b t) × ((section b (relocation_table b t)).info ≡ t)
holds_relocations b t some = relocates_is b t some

-- a kept section has at most 2^20 bytes
pub kept_small : (b : List ℕ) → IsObject b → (s : ℕ) → IsKeptSection b s → (section b s).size ≤ 2 ^ 20
unfolding Stands
kept_small b object s kept =
    elim (cases_lt (2 ^ 20) (section b s).size) [
      | inl large ↦ absurd (object TooLarge s 0 (refl, inl (kept, large)))
      | inr small ↦ small
    ]

-- a table has at most 2^20 entries
pub table_small : (b : List ℕ) → IsObject b → (s : ℕ)
    → IsTable b s ⊎ (IsRela b s × IsKeptSection b (section b s).info) → entry_count (section b s) ≤ 2 ^ 20
unfolding Stands
table_small b object s table =
    elim (cases_lt (24 * 2 ^ 20) (section b s).size) [
      | inl large ↦ absurd (object TooLarge s 0 (refl, inr (table, large)))
      | inr small ↦ omega arith
    ]

-- there are at most 2^20 symbols
pub symbols_few : (b : List ℕ) → IsObject b → symbol_count b ≤ 2 ^ 20
symbols_few b object = elim (cases_lt 0 (symbol_table b)) [
  | inl some ↦
      let table = table_is b some in
      few_if (nat_lt 0 (symbol_table b)) (entry_count (section b (symbol_table b)))
      (table_small b object (symbol_table b) (inl ((some, table.0), table.1)))
  | inr none ↦ few_none (symbol_table b) (entry_count (section b (symbol_table b))) none
]
  where
    few_if : (t : Bool) (n : ℕ) → n ≤ 2 ^ 20 → (if t then n else 0) ≤ 2 ^ 20
    few_if true n h = h
    few_if false n h = omega arith

    few_none : (s n : ℕ) → s ≤ 0 → (if nat_lt 0 s then n else 0) ≤ 2 ^ 20
    few_none s n h = let zero : s ≡ 0 = omega arith in rw zero (omega arith)

-- there are as many relocations as asked for
pub length-relocations_from : (b : List ℕ) (at e n : ℕ) → length (relocations_from b at e n) ≡ n
unfolding relocations_from
length-relocations_from b at e zero = refl
length-relocations_from b at e (suc n) = ap suc (length-relocations_from b at (e + 1) n)

-- the section that holds the relocations of a kept one
pub table_of_kept : (b : List ℕ) (t : ℕ) → 0 < kept_relocation_table b t
    → IsKeptSection b t × IsRela b (kept_relocation_table b t) × ((section b (kept_relocation_table b t)).info ≡ t)
unfolding kept_relocation_table
table_of_kept b t some =
    let kept = kept_of (section_class b t) (relocation_table b t) some in
    let found = relocates_is b t kept.1 in
    rw kept.2 ((kept_is b t kept.0).0, found.0, found.1)
  where
    kept_of : (class : Option SectionClass) (r : ℕ) → 0 < (if is_some class then r else 0)
        → (is_none class ≡ false) × (0 < r) × ((if is_some class then r else 0) ≡ r)
    kept_of None r h = absurd (omega arith)
    kept_of (Some c) r h = (refl, h, refl)

-- a section has at most 2^20 relocations
pub relocations_few : (b : List ℕ) → IsObject b → (t : ℕ) → length (relocations b t) ≤ 2 ^ 20
unfolding relocations_in
relocations_few b object t =
    let r = kept_relocation_table b t in
    elim (cases_lt 0 r) [
      | inl some ↦
          let table = table_of_kept b t some in
          let P : ℕ → Type 0 = λ x. IsKeptSection b x in
          let few = table_small b object r (inr (table.1, subst P (sym table.2) table.0)) in
          few_if (nat_lt 0 r) (relocations_from b (section b r).offset 0 (entry_count (section b r)))
          (omega (arith, few, length-relocations_from b (section b r).offset 0 (entry_count (section b r))))
      | inr none ↦ few_none r (relocations_from b (section b r).offset 0 (entry_count (section b r))) none
    ]
  where
    few_if : (t : Bool) (xs : List Relocation) → length xs ≤ 2 ^ 20 → length (if t then xs else []) ≤ 2 ^ 20
    few_if true xs h = h
    few_if false xs h = omega arith

    few_none : (r : ℕ) (xs : List Relocation) → r ≤ 0 → length (if nat_lt 0 r then xs else []) ≤ 2 ^ 20
    few_none r xs h = let zero : r ≡ 0 = omega arith in rw zero (omega arith)

-- a section that linking keeps has a section number
pub class_in_table : (b : List ℕ) (s : ℕ) → is_none (section_class b s) ≡ false → IsSection b s
class_in_table b s h = (kept_is b s h).0.0

-- a section of the writable class has a section number
pub writable_in_table : (b : List ℕ) (s : ℕ) → IsWritable b s → IsSection b s
writable_in_table b s writable = class_in_table b s (some_of (section_class b s) writable)
  where
    some_of : (class : Option SectionClass) → IsOfData class → is_none class ≡ false
    some_of None h = absurd h
    some_of (Some class) h = refl
