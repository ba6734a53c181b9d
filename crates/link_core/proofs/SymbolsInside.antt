-- The symbols of an image are shared, and those of thread-local storage lie in its TLS segment.
use Rattle.std.proofs.Common.{◌≡◌, ◌≢◌, ◌≤◌, ◌==◌, ℕ, Bool, true, false, List, [], ◌++◌, map, Option, Some, None}
use Rattle.std.proofs.Common.{refl, arith}
use Rattle.std.specs.Prelude.{if◌then◌else◌}
use Rattle.std.specs.List.{All}
use Rattle.std.proofs.lemmas.Bool.Decides.{nat_tests}
use Rattle.std.proofs.lemmas.List.Elements.{All-append, All-cons, All-map, All-nil, All-weaker}
use Rattle.object_faults.specs.declared.class.SectionClass.{SectionClass}
use Rattle.object_faults.specs.declared.class.SectionClass.TheVariants.{Tls as ThreadLocal}
use Rattle.elf_records.specs.declared.symbol.SymbolBinding.{SymbolBinding}
use Rattle.elf_records.specs.declared.symbol.SymbolBinding.TheVariants.{Local}
use Rattle.elf_object.specs.declared.symbol.SymbolPlace.{SymbolPlace}
use Rattle.elf_object.specs.declared.symbol.SymbolPlace.TheVariants.{Undefined, Absolute, InSection}
use Rattle.elf_records.specs.declared.symbol.SymbolType.{SymbolType}
use Rattle.elf_records.specs.declared.symbol.SymbolType.TheVariants.{NoType, Tls}
use Rattle.elf_object.specs.Classes.{IsTls}
use Rattle.elf_object.specs.Faults.{IsObject}
use Rattle.elf_object.specs.Lawful.{IsPlaced, IsShared as IsSharedIn}
use Rattle.elf_object.specs.LawsOfParts.{placed, shared}
use Rattle.elf_object.specs.Lent.{section_class, symbol_binding, symbol_place, symbol_type, symbol_value}
use Rattle.dynamic_symbols.specs.Laws.{IsShared}
use Rattle.dynamic_symbols.proofs.Named.{symbols_shared}
use Rattle.image_file.specs.declared.part.TlsPart.{TlsPart}
use Rattle.image_file.specs.declared.symbol.ImageSymbol.{ImageSymbol}
use Rattle.image_writer.specs.Linkable.{tls_size as size_of}
use Rattle.tls_layout.specs.Places.{tls_alignment, tls_image, tls_size, initial_tls}
use Rattle.tls_layout.specs.Sections.{Layout}
use Rattle.elf_object.specs.Lent.{is_tls_class, is_tls_place}
use Rattle.tls_symbols.specs.Definitions.{same_binding}
use Rattle.link_needs.specs.Linking.{Linking, address, layout, object, offset}
use Rattle.link_tables.specs.Dynamic.{defined, foreign, imports, own_symbols, runtime_symbols, symbols}
use Rattle.link_needs.specs.Given.{FitsTable, IsGiven}
use Rattle.link_core.specs.Images.{tls_part}
use Rattle.link_needs.specs.Needs.{uses_runtime}
use Rattle.link_core.proofs.GotRelocationsSites.{in_section}
use Rattle.link_needs.specs.Linking.{placed_value}
use Rattle.tls_layout.specs.Places.{tls_offset_of}

-- a symbol that is shared, and lies in a TLS segment of n bytes if it is thread-local here
pub record IsRight (n : ℕ) (s : ImageSymbol) : Type 0 where
  pub shared : s.binding ≢ Local
  pub inside : s.kind ≡ Tls → s.is_defined ≡ true → s.value ≤ n

not_local : (y : SymbolBinding) → same_binding Local y ≡ false → y ≢ Local
not_local Local other = absurd (cc)
not_local y other = λ h. cc

tls_class : (class : Option SectionClass) → IsTls class → is_tls_class class ≡ true
tls_class (Some (ThreadLocal initial)) h = refl
tls_class class h = absurd h

-- ** what the image defines

module _ (l : Linking) (given : IsGiven l) (limits : FitsTable l) (o e : ℕ)
    (found : IsShared l.objects (record { object = o; symbol = e })) where
  is_object : IsObject (object l o)
  is_object = given.are_objects o [] found.within.object

  is_placed : IsPlaced (object l o) e
  is_placed = placed (object l o) is_object e found.within.symbol

  is_shared : IsSharedIn (object l o) e
  is_shared = shared (object l o) is_object e found.within.symbol
      (not_local (symbol_binding (object l o) e) found.shared)

  -- a place in a section of thread-local storage
  in_segment : (s : ℕ) → symbol_place (object l o) e ≡ InSection s
      → is_tls_class (section_class (object l o) s) ≡ true
      → placed_value (tls_offset_of (layout l) o) (InSection s) (symbol_value (object l o) e) ≤ tls_size
      (layout l).sections
  in_segment s at tls =
      in_section l given limits.lawful (record { object = o; symbol = e }) found.within s at tls

  -- a symbol that an image shows as thread-local
  shown_inside : (place : SymbolPlace) (address : ℕ) → symbol_place (object l o) e ≡ place
      → (if is_tls_place (object l o) place then Tls
      else symbol_type (object l o) e) ≡ Tls
      → (if is_tls_place (object l o) place
      then placed_value (tls_offset_of (layout l) o) place (symbol_value (object l o) e) else address)
      ≤ tls_size (layout l).sections
  shown_inside Undefined address at shows = absurd (cc)
  shown_inside Absolute address at shows = absurd (is_shared.relative at)
  shown_inside (InSection s) address at shows = by (is_tls_class (section_class (object l o) s)) refl shows
    where
      by : (t : Bool) → is_tls_class (section_class (object l o) s) ≡ t
          → (if t then Tls else symbol_type (object l o) e) ≡ Tls
          → (if t then placed_value (tls_offset_of (layout l) o) (InSection s)
          (symbol_value (object l o) e) else address)
          ≤ tls_size (layout l).sections
      by true is shows = in_segment s at is
      by false is shows =
          absurd (cc (is, tls_class (section_class (object l o) s) (is_placed.thread_local s shows at)))

  defined_right : IsRight (tls_size (layout l).sections) (defined l (record { object = o; symbol = e }))
  unfolding defined offset
  defined_right = record {
    shared = not_local (symbol_binding (object l o) e) found.shared;
    inside = λ shows is.
        shown_inside (symbol_place (object l o) e) (address l (record { object = o; symbol = e })) refl shows;
  }

-- ** all symbols

foreign_right : (n : ℕ) (kind : SymbolType) → IsRight n (foreign kind)
foreign_right n kind = record { shared = λ h. cc; inside = λ shows is. absurd (cc) }

own_right : (l : Linking) → IsGiven l → FitsTable l
    → All (IsRight (tls_size (layout l).sections)) (map (defined l) (own_symbols l))
own_right l given limits =
    let n = tls_size (layout l).sections in
    All-map (IsRight n) (defined l) (own_symbols l)
    (All-weaker (IsShared l.objects) (λ found. IsRight n (defined l found))
    (λ found is. defined_right l given limits found.object found.symbol is) (own_symbols l) (symbols_shared l.objects))

imports_right : (n : ℕ) (names : List (List ℕ))
    → All (IsRight n) (map (λ (name : List ℕ). foreign Tls) names)
imports_right n names =
    All-map (IsRight n) (λ (name : List ℕ). foreign Tls) names
    (λ k d h. foreign_right n Tls)

runtime_right : (n : ℕ) (uses : Bool) → All (IsRight n) (runtime_symbols uses)
runtime_right n true =
    All-cons (IsRight n) (foreign NoType) [] (foreign_right n NoType) (All-nil (IsRight n))
runtime_right n false = All-nil (IsRight n)

pub symbols_right : (l : Linking) → IsGiven l → FitsTable l → All (IsRight (tls_size (layout l).sections)) (symbols l)
unfolding symbols
symbols_right l given limits =
    let n = tls_size (layout l).sections in
    let imported : List ImageSymbol = map (λ (name : List ℕ). foreign Tls) (imports l) in
    let called : List ImageSymbol = runtime_symbols (uses_runtime l) in
    All-append (IsRight n) (map (defined l) (own_symbols l)) (imported ++ called) (own_right l given limits)
    (All-append (IsRight n) imported called (imports_right n (imports l)) (runtime_right n (uses_runtime l)))

-- ** the segment

-- an image tells how many bytes its TLS segment has
pub size_told : (p : Layout) → size_of (tls_part p) ≡ tls_size p.sections
unfolding tls_part
size_told p = by (tls_size p.sections == 0) (tls_size p.sections) (record {
  address = (tls_image p.kind p.sections).start;
  initial = (initial_tls p.sections).end;
  size = tls_size p.sections;
  alignment = tls_alignment p.sections;
}) refl (zero_is (tls_size p.sections))
  where
    zero_is : (n : ℕ) → (n == 0) ≡ true → 0 ≡ n
    zero_is n h = grind (arith, nat_tests)

    by : (t : Bool) (n : ℕ) (part : TlsPart) → part.size ≡ n → (t ≡ true → 0 ≡ n)
        → size_of (if t then None else Some part) ≡ n
    by true n part same none = none refl
    by false n part same none = same
