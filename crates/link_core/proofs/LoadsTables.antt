-- How many bytes the dynamic tables of an image have.
use Rattle.std.proofs.Common.{◌≡◌, ◌+◌, ◌*◌, ◌^◌, ◌<◌, ◌≤◌, ◌∙◌, ℕ, Bool, true, false, List, [], ◌∷◌, ◌++◌}
use Rattle.std.proofs.Common.{length, map, refl, arith, length-append, if◌then◌else◌}
use Rattle.std.specs.Prelude.{sum_by}
use Rattle.std.specs.List.{flat_map}
use Rattle.std.proofs.lemmas.List.{length-map}
use Rattle.std.proofs.lemmas.List.Sums.{sum_by-cons}
use Rattle.dynamic_symbols.specs.Names.{name_of, name_size, size_of}
use Rattle.elf_records.specs.declared.symbol.SymbolType.TheVariants.{Tls}
use Rattle.image_rules.specs.declared.places.FileKind.{FileKind}
use Rattle.image_rules.specs.declared.places.FileKind.TheVariants.{Exe, Pie, Module}
use Rattle.image_writer.specs.Contents.{Contents}
use Rattle.image_writer.specs.Tables.{array_size, flags_entries, has_relocations, name_bytes, strings, tables}
use Rattle.image_writer.proofs.TableSizes.{tables_long}
use Rattle.link_faults.specs.declared.symbol_ref.SymbolRef.{SymbolRef}
use Rattle.link_needs.specs.Linking.{Linking}
use Rattle.link_needs.specs.Needs.{uses_runtime}
use Rattle.link_tables.specs.Dynamic.{defined, foreign, image_relocations, imports, names, own_symbols, runtime_names}
use Rattle.link_tables.specs.Dynamic.{runtime_symbols, symbols}
use Rattle.link_tables.specs.Faults.{FitsLimits}
use Rattle.link_core.specs.Images.{contents}

-- ** names

-- the bytes of names, each with the zero behind it
abbrev pub length_of : List (List ℕ) → ℕ
length_of [] = 0
length_of (name ∷ more) = length name + 1 + length_of more

-- those of two lists
length_of-append : (xs ys : List (List ℕ)) → length_of (xs ++ ys) ≡ length_of xs + length_of ys
length_of-append [] ys = omega arith
length_of-append (name ∷ xs) ys = let rest = length_of-append xs ys in omega arith

-- they are so many
length_of-is : (xs : List (List ℕ)) → length (flat_map name_bytes xs) ≡ length_of xs
length_of-is [] = refl
length_of-is (name ∷ xs) =
    let rest = length_of-is xs in
    omega (arith, length-append (name_bytes name) (flat_map name_bytes xs), length-append name (0 ∷ []))

-- with 24 bytes a symbol they are what the limit counts
size_is : (xs : List (List ℕ)) → 24 * length xs + length_of xs ≡ sum_by size_of xs
size_is [] = refl
size_is (name ∷ xs) = let rest = size_is xs in rw sum_by-cons (omega arith)

-- so do those of the own symbols
size_of_own : (objects : List (List ℕ)) (own : List SymbolRef)
    → 24 * length own + length_of (map (name_of objects) own) ≡ sum_by (λ found. size_of (name_of objects found)) own
size_of_own objects [] = refl
size_of_own objects (found ∷ own) = let rest = size_of_own objects own in rw sum_by-cons (omega arith)

-- ** symbols

-- that of the run time comes besides
runtime_short : (t : Bool) → length_of (runtime_names t) ≤ 15
runtime_short true = omega arith
runtime_short false = omega arith

-- it is one symbol at most
runtime_one : (t : Bool) → length (runtime_symbols t) ≤ 1
runtime_one true = omega arith
runtime_one false = omega arith

-- symbols and names of an image within the limits
pub symbols_short : (l : Linking) → FitsLimits l → 24 * length (symbols l) + length_of (names l) ≤ 2 ^ 22 + 39
unfolding symbols names name_size
symbols_short l limits =
    let own = own_symbols l in
    let others = map (λ (name : List ℕ). foreign Tls) (imports l) in
    let short = limits.short in
    omega (
      arith,
      short,
      length-append (map (defined l) own) (others ++ runtime_symbols (uses_runtime l)),
      length-append others (runtime_symbols (uses_runtime l)),
      length-map own (defined l),
      length-map (imports l) (λ (name : List ℕ). foreign Tls),
      length_of-append (map (name_of l.objects) own) (imports l ++ runtime_names (uses_runtime l)),
      length_of-append (imports l) (runtime_names (uses_runtime l)),
      size_of_own l.objects own,
      size_is (imports l),
      runtime_short (uses_runtime l),
      runtime_one (uses_runtime l),
    )

-- ** all tables

-- one entry of a flag at most
few_flags : (flagged : Bool) (kind : FileKind) → length (flags_entries flagged kind) ≤ 1
few_flags true kind = omega arith
few_flags false Exe = omega arith
few_flags false Pie = omega arith
few_flags false Module = omega arith

-- the dynamic array has ten entries at most
pub array_short : (c : Contents) → array_size c ≤ 160
array_short c = of_test (has_relocations c)
  where
    of_test : (s : Bool) → 16 * (6 + (if s then 3 else 0) + length (flags_entries c.is_flagged c.kind)) ≤ 160
    of_test true = omega (arith, few_flags c.is_flagged c.kind)
    of_test false = omega (arith, few_flags c.is_flagged c.kind)

-- the array is among them
pub array_inside : (c : Contents) → array_size c ≤ length (tables c)
array_inside c = omega (arith, tables_long c)

-- it is never empty
pub array_some : (c : Contents) → 0 < array_size c
array_some c = omega arith

-- the names of the image, that of the reserved symbol with them
strings_short : (l : Linking) → length (strings (contents l)) ≡ 1 + length_of (names l)
unfolding strings contents
strings_short l = length_of-is ([] ∷ names l) ∙ omega arith

-- the tables of an image within the limits
pub tables_short : (l : Linking) → FitsLimits l → length (image_relocations l) ≤ 2 * (2 ^ 19 + 1)
    → length (tables (contents l)) ≤ 2 ^ 25 + 1000
unfolding contents
tables_short l limits few =
    let c = contents l in
    let array = array_short c in
    omega (arith, tables_long c, array, strings_short l, symbols_short l limits)
