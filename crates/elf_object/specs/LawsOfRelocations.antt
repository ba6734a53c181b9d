-- What callers may rely on in the relocations that an object lends.
use Rattle.std.proofs.Common.{◌≡◌, ◌≢◌, ◌+◌, ◌*◌, ◌<◌, ◌≤◌, ◌⊎◌, ◌∙◌, ℕ, zero, suc, Bool, true, false, List, []}
use Rattle.std.proofs.Common.{Option, Some, None, IsSome, nat_lt, if◌then◌else◌, unwrap_or, inl, inr, refl, sym}
use Rattle.std.proofs.Common.{subst, arith}
use Rattle.std.specs.List.{All}
use Rattle.std.proofs.lemmas.Bool.{cases_lt}
use Rattle.elf_records.specs.Records.{rela_symbol, rela_kind}
use Rattle.object_rules.specs.declared.fault.FaultKind.TheVariants.{RelocSymbol, RelocKind, RelocRange}
use Rattle.object_faults.specs.declared.class.SectionClass.{SectionClass}
use Rattle.object_faults.specs.declared.class.SectionClass.TheVariants.{Executable, ReadOnly, Tls, Writable}
use Rattle.elf_object.specs.declared.symbol.SymbolPlace.TheVariants.{Absolute, InSection}
use Rattle.elf_records.specs.declared.relocation.RelocationKind.{RelocationKind}
use Rattle.elf_records.specs.declared.relocation.RelocationKind.TheVariants.{Nothing}
use Rattle.elf_object.specs.declared.relocation.Relocation.{Relocation}
use Rattle.elf_object.specs.Parts.{section, symbol, rela, symbol_count, entry_count}
use Rattle.elf_object.specs.Classes.{kept_class, IsKeptSection}
use Rattle.elf_object.specs.Relocations.{relocation_kind, field_width, width_of, width_at, IsOfCode, IsReloc}
use Rattle.elf_object.specs.Lent.{section_class, section_size, symbol_place, relocation_at, relocations_from}
use Rattle.elf_object.specs.Lent.{relocations_in, relocations, kept_relocation_table}
use Rattle.elf_object.specs.Lawful.{IsLawful}
use Rattle.elf_object.specs.Faults.{Stands, IsObject, IsUnplaced, IsDropped, IsMiskinded}
use Rattle.elf_object.specs.Laws.{table_of_kept}
use Rattle.elf_object.specs.LawsOfParts.{placed, class_of_section, size_of_section, some_or_not, place_is}
use Rattle.elf_object.specs.LawsOfParts.{place_absolute}

-- a number that is no type counts as no relocation
pub width_is : (kind : Option RelocationKind) → field_width (unwrap_or kind Nothing) ≡ width_of kind
width_is None = refl
width_is (Some kind) = refl

-- a class is that of code, or not
code_or_not : (class : Option SectionClass) → (class ≡ Some Executable) ⊎ (class ≢ Some Executable)
code_or_not None = inr (λ h. cc)
code_or_not (Some Executable) = inl refl
code_or_not (Some ReadOnly) = inr (λ h. cc)
code_or_not (Some (Tls initial)) = inr (λ h. cc)
code_or_not (Some (Writable initial)) = inr (λ h. cc)

-- the field is in its section
inside_at : (b : List ℕ) → IsObject b → (r e : ℕ) → IsReloc b r e
    → (rela b r e).offset + field_width (unwrap_or (relocation_kind (rela_kind (rela b r e))) Nothing) ≤
    section_size b (section b r).info
unfolding Stands
inside_at b object r e reloc =
    let t = (section b r).info in
    rw (width_is (relocation_kind (rela_kind (rela b r e))), size_of_section b t reloc.1.0)
    (elim (cases_lt (section b t).size ((rela b r e).offset + width_at b r e)) [
      | inl past ↦ absurd (object RelocRange r e (reloc, past))
      | inr fits ↦ fits
    ])

-- a type that belongs to an instruction is used in code only
code_at : (b : List ℕ) → IsObject b → (r e : ℕ) → IsReloc b r e
    → IsOfCode (unwrap_or (relocation_kind (rela_kind (rela b r e))) Nothing) → section_class b (section b r).info
    ≡ Some Executable
unfolding Stands
code_at b object r e reloc code =
    let t = (section b r).info in
    class_of_section b t reloc.1.0
    ∙ of_kind (relocation_kind (rela_kind (rela b r e))) (kept_class (section b t)) code
    (λ wrong. object RelocKind r e (reloc, wrong))
  where
    of_kind : (kind : Option RelocationKind) (class : Option SectionClass) → IsOfCode (unwrap_or kind Nothing)
        → (IsMiskinded kind class → ⊥) → class ≡ Some Executable
    of_kind None class code fine = absurd (cc)
    of_kind (Some k) class code fine = elim (code_or_not class)
        [ inl same ↦ same | inr other ↦ absurd (fine (code, other)) ]

-- a relocation that writes something names a symbol that has a place
type_of : (n : ℕ) → unwrap_or (relocation_kind n) Nothing ≢ Nothing → n ≢ 0
type_of n some none = some (rw none refl)

placed_at : (b : List ℕ) → IsObject b → (r e : ℕ) → IsReloc b r e → rela_kind (rela b r e) ≢ 0
    → IsUnplaced b (rela_symbol (rela b r e)) → ⊥
unfolding Stands
placed_at b object r e reloc some wrong = object RelocSymbol r e (reloc, some, wrong)

symbol_at : (b : List ℕ) (y : ℕ) → (IsUnplaced b y → ⊥) → (0 < y) × (y < symbol_count b)
symbol_at b y fine = (above, below)
  where
    above : 0 < y
    above = elim (cases_lt 0 y) [ inl some ↦ some | inr none ↦ absurd (fine (inl (omega arith))) ]

    below : y < symbol_count b
    below = elim (cases_lt y (symbol_count b)) [ inl less ↦ less | inr past ↦ absurd (fine (inr (inl past))) ]

relative_at : (b : List ℕ) (y : ℕ) → (IsUnplaced b y → ⊥) → symbol_place b y ≢ Absolute
relative_at b y fine absolute = fine (inr (inr ((symbol_at b y fine).1, inl (place_absolute b y absolute))))

kept_at : (b : List ℕ) → IsObject b → (y : ℕ) → (IsUnplaced b y → ⊥) → (s : ℕ) → symbol_place b y ≡ InSection s
    → IsSome (section_class b s)
kept_at b object y fine s at =
    let below = (symbol_at b y fine).1 in
    let within = (placed b object y below).section s at in
    elim (some_or_not (kept_class (section b s))) [
      | inl kept ↦ rw (class_of_section b s within) kept
      | inr dropped ↦
          let P : ℕ → Type 0 = λ x. IsDropped b x in
          let gone : IsDropped b (symbol b y).shndx = subst P (sym (place_is b y s at).1) (within, dropped) in
          absurd (fine (inr (inr (below, inr gone))))
    ]

lawful_at : (b : List ℕ) → IsObject b → (r e : ℕ) → IsReloc b r e
    → IsLawful b (section b r).info (relocation_at ((section b r).offset + 24 * e) b)
unfolding relocation_at rela
lawful_at b object r e reloc = record {
  inside = inside_at b object r e reloc;
  code = code_at b object r e reloc;
  symbol = λ some. symbol_at b (rela_symbol (rela b r e)) (placed_at b object r e reloc
      (type_of (rela_kind (rela b r e)) some));
  relative = λ some. relative_at b (rela_symbol (rela b r e))
      (placed_at b object r e reloc (type_of (rela_kind (rela b r e)) some));
  kept = λ some. kept_at b object (rela_symbol (rela b r e)) (placed_at b object r e reloc
      (type_of (rela_kind (rela b r e)) some));
}

-- entry after entry
all_from : (P : Relocation → Type 0) (b : List ℕ) (at e n : ℕ)
    → ((k : ℕ) → e ≤ k → k < e + n → P (relocation_at (at + 24 * k) b)) → All P (relocations_from b at e n)
unfolding relocations_from
all_from P b at e zero each k d h = absurd (omega arith)
all_from P b at e (suc n) each zero d h = each e (omega arith) (omega arith)
all_from P b at e (suc n) each (suc k) d h = all_from P b at (e + 1) n
    (λ i low high. each i (omega arith) (omega arith)) k d (omega arith)

-- what callers may rely on in the relocations of a section
pub lawful : (b : List ℕ) → IsObject b → (t : ℕ) → All (IsLawful b t) (relocations b t)
unfolding relocations_in
lawful b object t =
    let r = kept_relocation_table b t in
    elim (cases_lt 0 r) [
      | inl some ↦
          let table = table_of_kept b t some in
          let K : ℕ → Type 0 = λ x. IsKeptSection b x in
          let kept : IsKeptSection b (section b r).info = subst K (sym table.2) table.0 in
          let P : ℕ → Type 0 = λ x. All (IsLawful b x) (relocations_from b (section b r).offset 0
          (entry_count (section b r))) in
          let all : P (section b r).info =
          all_from (IsLawful b (section b r).info) b (section b r).offset 0 (entry_count (section b r))
          (λ k low high. lawful_at b object r k (table.1, kept, omega (arith, high))) in
          all_if (IsLawful b t) (nat_lt 0 r) (relocations_from b (section b r).offset 0
          (entry_count (section b r))) (subst P table.2 all)
      | inr none ↦
          all_none (IsLawful b t) r (relocations_from b (section b r).offset 0 (entry_count (section b r))) none
    ]
  where
    all_if : (P : Relocation → Type 0) (t : Bool) (xs : List Relocation) → All P xs → All P (if t then xs else [])
    all_if P true xs h k d below = h k d below
    all_if P false xs h k d below = absurd (omega arith)

    all_none : (P : Relocation → Type 0) (r : ℕ) (xs : List Relocation) → r ≤ 0 → All P (if nat_lt 0 r then xs else [])
    all_none P r xs h = let null : r ≡ 0 = omega arith in rw null (λ k d below. absurd (omega arith))
