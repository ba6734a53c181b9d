-- What stands where in an object's bytes.
use Rattle.std.proofs.Common.{◌≡◌, ◌+◌, ◌*◌, ◌<◌, ◌≤◌, ℕ, Bool, true, false, List, [], ◌∷◌, ◌++◌, length}
use Rattle.std.proofs.Common.{slice_index_or, slice_range, refl, sym, ap, ◌∙◌, arith, rules, length-append}
use Rattle.std.proofs.lemmas.Bool.Decides.{nat_tests}
use Rattle.std.proofs.lemmas.List.Elements.{All-from_recursion}
use Rattle.std.specs.List.{All, AllByRecursion as ByRecursion, flat_map}
use Rattle.elf_records.specs.declared.relocation.Rela.{Rela}
use Rattle.elf_records.specs.declared.section_header.SectionHeader.{SectionHeader}
use Rattle.elf_records.specs.declared.symbol.SymbolEntry.{SymbolEntry}
use Rattle.elf_records.specs.Records.{section_at}
use Rattle.elf_records.specs.FittingRecords.{FitsHeader, FitsSectionHeader, FitsSymbolEntry, FitsRela}
use Rattle.elf_records.specs.Records.{symbol_at, rela_at, header_bytes, section_bytes, symbol_bytes, rela_bytes}
use Rattle.elf_records.specs.RecordLaws.{header_again, section_again, symbol_again, rela_again, length-header_bytes}
use Rattle.elf_records.specs.RecordLaws.{length-section_bytes, length-symbol_bytes, length-rela_bytes}
use Rattle.object_faults.specs.Parts.{header, section}
use Rattle.generated_job.specs.Shapes.{Shape, object_bytes, contents_of, file_header, sections_of, section_of}
use Rattle.generated_job.specs.Shapes.{symbols_of, names_of, getter_name, section_names, symbols_at}
use Rattle.generated_job.specs.Shapes.{names_at, section_names_at, relocations_at, zeros_alignment}
use Rattle.generated_laws.specs.Reading.{IsSmall}
use Rattle.generated_laws.proofs.ObjectRows.{IsRecord, IsBehind, behind, part_behind, row_behind, length_rows}
use Rattle.generated_laws.proofs.ObjectRows.{all_of, length_behind}

-- ** sizes

-- three symbols or four
pub few_symbols : (s : Shape) → length (symbols_of s) ≤ 4
unfolding symbols_of
few_symbols s = few_of s.calls
  where
    few_of : (calls : Bool) → length (symbols_of (record s { calls = calls })) ≤ 4
    few_of true = omega arith
    few_of false = omega arith

few_of_getter : (calls : Bool) → length (getter_name calls) ≤ 15
few_of_getter true = omega arith
few_of_getter false = omega arith

pub length_names : (s : Shape)
    → length (names_of s) ≡ 3 + length s.function + length s.variable + length (getter_name s.calls)
unfolding names_of
length_names s =
    omega (
      arith,
      length-append s.function (0 ∷ s.variable ++ (0 ∷ getter_name s.calls)),
      length-append s.variable (0 ∷ getter_name s.calls),
    )

pub few_names : (s : Shape) → IsSmall s → length (names_of s) < 1024
few_names s small =
    omega (arith, length_names s, few_of_getter s.calls, small.function_name.few, small.variable_name.few)

small_alignment : (n : ℕ) → zeros_alignment n ≤ 4
small_alignment n = grind (arith, nat_tests)

length_section_names : length section_names ≡ 57
unfolding section_names
length_section_names = refl

-- ** all numbers fit their fields

header_fits : FitsHeader file_header
unfolding file_header
header_fits = search (rules, arith)

sections_fit : (s : Shape) → IsSmall s → All FitsSectionHeader (sections_of s)
unfolding sections_of
sections_fit s small =
    let symbols = few_symbols s in
    let names = few_names s small in
    let alignment = small_alignment s.zeros in
    let code = small.few_code in
    let initial = small.few_initial in
    let relocations = small.few_relocations in
    let zeros = small.few_zeros in
    All-from_recursion FitsSectionHeader (sections_of s) (search (rules, arith))

symbols_fit : (s : Shape) → IsSmall s → All FitsSymbolEntry (symbols_of s)
unfolding symbols_of
symbols_fit s small =
    let code = small.few_code in
    let initial = small.few_initial in
    let function = small.function_name.few in
    let variable = small.variable_name.few in
    All-from_recursion FitsSymbolEntry (symbols_of s) (fit_of s.calls)
  where
    fit_of : (calls : Bool) → ByRecursion FitsSymbolEntry (symbols_of (record s { calls = calls }))
    fit_of true = search (rules, arith)
    fit_of false = search (rules, arith)

-- ** each kind of record

sections_law : IsRecord 64 section_bytes section_at FitsSectionHeader
sections_law = record { length_is = length-section_bytes; again = section_again }

symbols_law : IsRecord 24 symbol_bytes symbol_at FitsSymbolEntry
symbols_law = record { length_is = length-symbol_bytes; again = symbol_again }

relas_law : IsRecord 24 rela_bytes rela_at FitsRela
relas_law = record { length_is = length-rela_bytes; again = rela_again }

-- ** what stands where

-- section 0, and what is told of a section that is none
abbrev pub no_section : SectionHeader
no_section = section_of 0 0 0 0 0 0 0 0 0

-- the bytes hold the parts of the shape, each at its place
pub record IsLaid (b : List ℕ) (s : Shape) : Type 0 where
  pub header_is : header b ≡ file_header
  pub sections_are : (k : ℕ) → k < 8 → section b k ≡ slice_index_or (sections_of s) k no_section
  pub symbols_are : (e : ℕ) (d : SymbolEntry) → e < length (symbols_of s)
      → symbol_at (symbols_at s + 24 * e) b ≡ slice_index_or (symbols_of s) e d
  pub relas_are : (e : ℕ) (d : Rela) → e < length s.relocations
      → rela_at (relocations_at s + 24 * e) b ≡ slice_index_or s.relocations e d
  pub code_is : slice_range b 576 (576 + length s.code) ≡ s.code
  pub initial_is :
      slice_range b (576 + length s.code) (576 + length s.code + length s.initial) ≡ s.initial
  pub names_are : slice_range b (names_at s) (names_at s + length (names_of s)) ≡ names_of s
  pub section_names_are : slice_range b (section_names_at s) (section_names_at s + 57) ≡ section_names
  pub length_is : length b ≡ relocations_at s + 24 * length s.relocations

-- what is behind each part
abbrev behind_names : Shape → List ℕ
behind_names s = section_names ++ flat_map rela_bytes s.relocations

abbrev behind_symbols : Shape → List ℕ
behind_symbols s = names_of s ++ behind_names s

abbrev behind_initial : Shape → List ℕ
behind_initial s = flat_map symbol_bytes (symbols_of s) ++ behind_symbols s

abbrev behind_code : Shape → List ℕ
behind_code s = s.initial ++ behind_initial s

abbrev behind_sections : Shape → List ℕ
behind_sections s = s.code ++ behind_code s

abbrev behind_header : Shape → List ℕ
behind_header s = flat_map section_bytes (sections_of s) ++ behind_sections s

at_sections : (s : Shape) → IsBehind (object_bytes s) (behind_header s) 64
unfolding object_bytes contents_of
at_sections s = behind (object_bytes s) (header_bytes file_header) (behind_header s) 0 64
    (record { front = []; whole = refl; long = refl }) (length-header_bytes file_header header_fits.0)

eight : (s : Shape) → length (sections_of s) ≡ 8
unfolding sections_of
eight s = refl

at_code : (s : Shape) → IsBehind (object_bytes s) (behind_sections s) 576
at_code s = behind (object_bytes s) (flat_map section_bytes (sections_of s)) (behind_sections s) 64 512
    (at_sections s) (length_rows 64 section_bytes (sections_of s) length-section_bytes ∙ ap (λ n. 64 * n) (eight s))

at_initial : (s : Shape) → IsBehind (object_bytes s) (behind_code s) (576 + length s.code)
at_initial s = behind (object_bytes s) s.code (behind_code s) 576 (length s.code) (at_code s) refl

at_symbols : (s : Shape) → IsBehind (object_bytes s) (behind_initial s) (symbols_at s)
at_symbols s =
    behind (object_bytes s) s.initial (behind_initial s) (576 + length s.code) (length s.initial) (at_initial s) refl

at_names : (s : Shape) → IsBehind (object_bytes s) (behind_symbols s) (names_at s)
at_names s = behind (object_bytes s) (flat_map symbol_bytes (symbols_of s)) (behind_symbols s) (symbols_at s)
    (24 * length (symbols_of s)) (at_symbols s) (length_rows 24 symbol_bytes (symbols_of s) length-symbol_bytes)

at_section_names : (s : Shape) → IsBehind (object_bytes s) (behind_names s) (section_names_at s)
at_section_names s =
    behind (object_bytes s) (names_of s) (behind_names s) (names_at s) (length (names_of s)) (at_names s) refl

at_relocations : (s : Shape) → IsBehind (object_bytes s) (flat_map rela_bytes s.relocations) (relocations_at s)
at_relocations s = behind (object_bytes s) section_names (flat_map rela_bytes s.relocations) (section_names_at s) 57
    (at_section_names s) length_section_names

header_read : (s : Shape) → header (object_bytes s) ≡ file_header
unfolding header object_bytes contents_of
header_read s = header_again 0 file_header [] (behind_header s) refl header_fits

section_read : (s : Shape) → IsSmall s → (k : ℕ) → k < 8
    → section (object_bytes s) k ≡ slice_index_or (sections_of s) k no_section
unfolding section sections_of file_header
section_read s small k below =
    ap (λ h. section_at (h.e_shoff + 64 * k) (object_bytes s)) (header_read s)
    ∙ row_behind 64 section_bytes section_at FitsSectionHeader sections_law (sections_of s) k 64 (object_bytes s)
    (behind_sections s) no_section (at_sections s) (sections_fit s small) below

pub object_laid : (s : Shape) → IsSmall s → IsLaid (object_bytes s) s
object_laid s small = record {
  header_is = header_read s;
  sections_are = section_read s small;
  symbols_are = λ e d below. row_behind 24 symbol_bytes symbol_at FitsSymbolEntry symbols_law (symbols_of s) e
      (symbols_at s) (object_bytes s) (behind_symbols s) d (at_symbols s) (symbols_fit s small) below;
  relas_are = λ e d below. row_behind 24 rela_bytes rela_at FitsRela relas_law s.relocations e
      (relocations_at s) (object_bytes s) [] d (all_of (at_relocations s)) small.relocations_fit below;
  code_is = part_behind (object_bytes s) s.code (behind_code s) 576 (at_code s);
  initial_is = part_behind (object_bytes s) s.initial (behind_initial s) (576 + length s.code) (at_initial s);
  names_are = part_behind (object_bytes s) (names_of s) (behind_names s) (names_at s) (at_names s);
  section_names_are = ap (λ n. slice_range (object_bytes s) (section_names_at s) (section_names_at s + n))
      (sym length_section_names) ∙ part_behind (object_bytes s) section_names (flat_map rela_bytes s.relocations)
      (section_names_at s) (at_section_names s);
  length_is = length_behind (object_bytes s) (flat_map rela_bytes s.relocations) (relocations_at s) (at_relocations s)
      ∙ ap (λ n. relocations_at s + n) (length_rows 24 rela_bytes s.relocations length-rela_bytes);
}
