-- Laws of each of the six records, which crates above cite: its size in bytes, that reading gives what was written, and
-- that it depends only on its own bytes.
use Rattle.std.proofs.Common.{ℕ, ◌+◌, ◌-◌, ◌^◌, ◌<◌, ◌≤◌, ◌≡◌, List, ◌++◌, length, take, drop, slice_range, refl, sym}
use Rattle.std.proofs.Common.{ap, ◌∙◌, arith, add-zero, append_assoc, length-append}
use Rattle.std.proofs.lemmas.List.{length-take-le}
use Rattle.std.proofs.Math.Facts.{Fits-of_z, to_z-of_z}
use Rattle.std.specs.Int.{w64, cast_unsigned}
use Rattle.elf_records.specs.declared.file_header.Header.{Header}
use Rattle.elf_records.specs.declared.section_header.SectionHeader.{SectionHeader}
use Rattle.elf_records.specs.declared.symbol.SymbolEntry.{SymbolEntry}
use Rattle.elf_records.specs.declared.relocation.Rela.{Rela}
use Rattle.elf_records.specs.declared.program_header.Segment.{Segment}
use Rattle.elf_records.specs.declared.dynamic.DynamicEntry.{DynamicEntry}
use Rattle.elf_records.specs.Fields.{number_at, part_at, spelled, splice}
use Rattle.elf_records.specs.FieldLaws.{Reads}
use Rattle.elf_records.specs.Laws.{length-spelled, number_at-field, number_at-own, number_at-part, part_again}
use Rattle.elf_records.specs.Laws.{part_at-own, part_at-part, reads_again, reads-own, reads-part}
use Rattle.elf_records.specs.FittingRecords.{FitsHeader, FitsSectionHeader, FitsSymbolEntry, FitsRela, FitsSegment}
use Rattle.elf_records.specs.Records.{header_at, header_bytes, header_fields, section_at}
use Rattle.elf_records.specs.FittingRecords.{FitsDynamicEntry}
use Rattle.elf_records.specs.Records.{section_bytes, section_fields, symbol_at, symbol_bytes, symbol_fields, rela_at}
use Rattle.elf_records.specs.Records.{rela_bytes, rela_fields, segment_at, segment_bytes, segment_fields, dynamic_at}
use Rattle.elf_records.specs.Records.{dynamic_bytes, dynamic_fields}

-- the sizes, in bytes
pub length-header_bytes : (r : Header) → length r.ident ≡ 16 → length (header_bytes r) ≡ 64
unfolding header_bytes
length-header_bytes r sixteen = length-append r.ident (spelled (header_fields r))
    ∙ ap (λ k. k + length (spelled (header_fields r))) sixteen ∙ ap (λ k. 16 + k)
    (length-spelled (header_fields r))

pub length-section_bytes : (r : SectionHeader) → length (section_bytes r) ≡ 64
unfolding section_bytes
length-section_bytes r = length-spelled (section_fields r)

pub length-symbol_bytes : (r : SymbolEntry) → length (symbol_bytes r) ≡ 24
unfolding symbol_bytes
length-symbol_bytes r = length-spelled (symbol_fields r)

pub length-rela_bytes : (r : Rela) → length (rela_bytes r) ≡ 24
unfolding rela_bytes
length-rela_bytes r = length-spelled (rela_fields r)

pub length-segment_bytes : (r : Segment) → length (segment_bytes r) ≡ 56
unfolding segment_bytes
length-segment_bytes r = length-spelled (segment_fields r)

pub length-dynamic_bytes : (r : DynamicEntry) → length (dynamic_bytes r) ≡ 16
unfolding dynamic_bytes
length-dynamic_bytes r = length-spelled (dynamic_fields r)

-- the first field stands at the place itself
first : (n at : ℕ) (bytes : List ℕ) → number_at n (at + 0) bytes ≡ number_at n at bytes
first n at bytes = ap (λ i. number_at n i bytes) (add-zero at)

-- a record stands where its fields are read, and where one stands its fields are read
header_is : (at : ℕ) (r : Header) (bytes : List ℕ) → part_at 16 at bytes ≡ r.ident
    → Reads at 16 (header_fields r) bytes → header_at at bytes ≡ r
unfolding header_at
header_is at r bytes ident all =
    rw (
      ident,
      all.0,
      all.1.0,
      all.1.1.0,
      all.1.1.1.0,
      all.1.1.1.1.0,
      all.1.1.1.1.1.0,
      all.1.1.1.1.1.1.0,
      all.1.1.1.1.1.1.1.0,
      all.1.1.1.1.1.1.1.1.0,
      all.1.1.1.1.1.1.1.1.1.0,
      all.1.1.1.1.1.1.1.1.1.1.0,
      all.1.1.1.1.1.1.1.1.1.1.1.0,
      all.1.1.1.1.1.1.1.1.1.1.1.1.0,
    ) refl

header_reads : (at : ℕ) (bytes : List ℕ) → Reads at 16 (header_fields (header_at at bytes)) bytes
unfolding header_at
header_reads at bytes =
    (refl, (refl, (refl, (refl, (refl, (refl, (refl, (refl, (refl, (refl, (refl, (refl, (refl, tt)))))))))))))

section_is : (at : ℕ) (r : SectionHeader) (bytes : List ℕ) → Reads at 0 (section_fields r) bytes
    → section_at at bytes ≡ r
unfolding section_at
section_is at r bytes all =
    rw (
      sym (first 4 at bytes) ∙ all.0,
      all.1.0,
      all.1.1.0,
      all.1.1.1.0,
      all.1.1.1.1.0,
      all.1.1.1.1.1.0,
      all.1.1.1.1.1.1.0,
      all.1.1.1.1.1.1.1.0,
      all.1.1.1.1.1.1.1.1.0,
      all.1.1.1.1.1.1.1.1.1.0,
    ) refl

section_reads : (at : ℕ) (bytes : List ℕ) → Reads at 0 (section_fields (section_at at bytes)) bytes
unfolding section_at
section_reads at bytes = (first 4 at bytes, (refl, (refl, (refl, (refl, (refl, (refl, (refl, (refl, (refl, tt))))))))))

symbol_is : (at : ℕ) (r : SymbolEntry) (bytes : List ℕ) → Reads at 0 (symbol_fields r) bytes
    → symbol_at at bytes ≡ r
unfolding symbol_at
symbol_is at r bytes all =
    rw (sym (first 4 at bytes) ∙ all.0, all.1.0, all.1.1.0, all.1.1.1.0, all.1.1.1.1.0, all.1.1.1.1.1.0) refl

symbol_reads : (at : ℕ) (bytes : List ℕ) → Reads at 0 (symbol_fields (symbol_at at bytes)) bytes
unfolding symbol_at
symbol_reads at bytes = (first 4 at bytes, (refl, (refl, (refl, (refl, (refl, tt))))))

segment_is : (at : ℕ) (r : Segment) (bytes : List ℕ) → Reads at 0 (segment_fields r) bytes
    → segment_at at bytes ≡ r
unfolding segment_at
segment_is at r bytes all =
    rw (
      sym (first 4 at bytes) ∙ all.0,
      all.1.0,
      all.1.1.0,
      all.1.1.1.0,
      all.1.1.1.1.0,
      all.1.1.1.1.1.0,
      all.1.1.1.1.1.1.0,
      all.1.1.1.1.1.1.1.0,
    ) refl

segment_reads : (at : ℕ) (bytes : List ℕ) → Reads at 0 (segment_fields (segment_at at bytes)) bytes
unfolding segment_at
segment_reads at bytes = (first 4 at bytes, (refl, (refl, (refl, (refl, (refl, (refl, (refl, tt))))))))

dynamic_is : (at : ℕ) (r : DynamicEntry) (bytes : List ℕ) → Reads at 0 (dynamic_fields r) bytes
    → dynamic_at at bytes ≡ r
unfolding dynamic_at
dynamic_is at r bytes all = rw (sym (first 8 at bytes) ∙ all.0, all.1.0) refl

dynamic_reads : (at : ℕ) (bytes : List ℕ) → Reads at 0 (dynamic_fields (dynamic_at at bytes)) bytes
unfolding dynamic_at
dynamic_reads at bytes = (first 8 at bytes, (refl, tt))

-- a record that was written after `front` is read there again as itself
pub header_again : (at : ℕ) (r : Header) (front back : List ℕ) → length front ≡ at → FitsHeader r
    → header_at at (front ++ (header_bytes r ++ back)) ≡ r
unfolding header_bytes
header_again at r front back place fits =
    let inner : (r.ident ++ spelled (header_fields r)) ++ back ≡ r.ident
    ++ (spelled (header_fields r) ++ back) = append_assoc r.ident (spelled (header_fields r)) back in
    let outer : front ++ ((r.ident ++ spelled (header_fields r)) ++ back) ≡ (front ++ r.ident)
    ++ (spelled (header_fields r) ++ back) =
    ap (λ b. front ++ b) inner ∙ sym (append_assoc front r.ident (spelled (header_fields r) ++ back)) in
    let sixteen : length r.ident ≡ 16 = fits.0 in
    let joined : length (front ++ r.ident) ≡ at + 16 = length-append front r.ident
    ∙ ap (λ k. k + length r.ident) place ∙ ap (λ k. at + k) sixteen in
    let ident : part_at 16 at (front ++ ((r.ident ++ spelled (header_fields r)) ++ back)) ≡ r.ident =
    ap (λ b. part_at 16 at (front ++ b)) inner ∙ ap (λ k. part_at k at (front ++ (r.ident
    ++ (spelled (header_fields r) ++ back)))) (sym sixteen)
    ∙ part_again at front r.ident (spelled (header_fields r) ++ back) place in
    let all : Reads at 16 (header_fields r) (front ++ ((r.ident ++ spelled (header_fields r)) ++ back)) =
    rw outer (reads_again at 16 (header_fields r) (front ++ r.ident) back joined fits.1) in
    header_is at r (front ++ (header_bytes r ++ back)) ident all

pub section_again : (at : ℕ) (r : SectionHeader) (front back : List ℕ) → length front ≡ at → FitsSectionHeader r
    → section_at at (front ++ (section_bytes r ++ back)) ≡ r
unfolding section_bytes
section_again at r front back place fits =
    section_is at r (front ++ (section_bytes r ++ back))
    (reads_again at 0 (section_fields r) front back (place ∙ sym (add-zero at)) fits)

pub symbol_again : (at : ℕ) (r : SymbolEntry) (front back : List ℕ) → length front ≡ at → FitsSymbolEntry r
    → symbol_at at (front ++ (symbol_bytes r ++ back)) ≡ r
unfolding symbol_bytes
symbol_again at r front back place fits =
    symbol_is at r (front ++ (symbol_bytes r ++ back))
    (reads_again at 0 (symbol_fields r) front back (place ∙ sym (add-zero at)) fits)

pub rela_again : (at : ℕ) (r : Rela) (front back : List ℕ) → length front ≡ at → FitsRela r
    → rela_at at (front ++ (rela_bytes r ++ back)) ≡ r
unfolding rela_at rela_bytes
rela_again at r front back place fits =
    let bits = Fits-of_z fits.1 in
    let below : cast_unsigned w64 r.addend < 2 ^ 64 = omega (arith, bits) in
    let all = reads_again at 0 (rela_fields r) front back (place ∙ sym (add-zero at))
    (fits.0.0, (fits.0.1.0, (below, tt))) in
    let addend = to_z-of_z fits.1 in
    rw (sym (first 8 at (front ++ (rela_bytes r ++ back))) ∙ all.0, all.1.0, all.1.1.0, addend) refl

pub segment_again : (at : ℕ) (r : Segment) (front back : List ℕ) → length front ≡ at → FitsSegment r
    → segment_at at (front ++ (segment_bytes r ++ back)) ≡ r
unfolding segment_bytes
segment_again at r front back place fits =
    segment_is at r (front ++ (segment_bytes r ++ back))
    (reads_again at 0 (segment_fields r) front back (place ∙ sym (add-zero at)) fits)

pub dynamic_again : (at : ℕ) (r : DynamicEntry) (front back : List ℕ) → length front ≡ at → FitsDynamicEntry r
    → dynamic_at at (front ++ (dynamic_bytes r ++ back)) ≡ r
unfolding dynamic_bytes
dynamic_again at r front back place fits =
    dynamic_is at r (front ++ (dynamic_bytes r ++ back))
    (reads_again at 0 (dynamic_fields r) front back (place ∙ sym (add-zero at)) fits)

-- a record that was written over other bytes is read again as itself
pub header_at-splice : (at : ℕ) (r : Header) (bytes : List ℕ) → at ≤ length bytes → FitsHeader r
    → header_at at (splice at (header_bytes r) bytes) ≡ r
unfolding splice
header_at-splice at r bytes inside fits = header_again at r (take at bytes)
    (drop (at + length (header_bytes r)) bytes) (length-take-le at bytes inside) fits

pub section_at-splice : (at : ℕ) (r : SectionHeader) (bytes : List ℕ) → at ≤ length bytes → FitsSectionHeader r
    → section_at at (splice at (section_bytes r) bytes) ≡ r
unfolding splice
section_at-splice at r bytes inside fits = section_again at r (take at bytes)
    (drop (at + length (section_bytes r)) bytes) (length-take-le at bytes inside) fits

pub symbol_at-splice : (at : ℕ) (r : SymbolEntry) (bytes : List ℕ) → at ≤ length bytes → FitsSymbolEntry r
    → symbol_at at (splice at (symbol_bytes r) bytes) ≡ r
unfolding splice
symbol_at-splice at r bytes inside fits = symbol_again at r (take at bytes)
    (drop (at + length (symbol_bytes r)) bytes) (length-take-le at bytes inside) fits

pub rela_at-splice : (at : ℕ) (r : Rela) (bytes : List ℕ) → at ≤ length bytes → FitsRela r
    → rela_at at (splice at (rela_bytes r) bytes) ≡ r
unfolding splice
rela_at-splice at r bytes inside fits = rela_again at r (take at bytes)
    (drop (at + length (rela_bytes r)) bytes) (length-take-le at bytes inside) fits

pub segment_at-splice : (at : ℕ) (r : Segment) (bytes : List ℕ) → at ≤ length bytes → FitsSegment r
    → segment_at at (splice at (segment_bytes r) bytes) ≡ r
unfolding splice
segment_at-splice at r bytes inside fits = segment_again at r (take at bytes)
    (drop (at + length (segment_bytes r)) bytes) (length-take-le at bytes inside) fits

pub dynamic_at-splice : (at : ℕ) (r : DynamicEntry) (bytes : List ℕ) → at ≤ length bytes → FitsDynamicEntry r
    → dynamic_at at (splice at (dynamic_bytes r) bytes) ≡ r
unfolding splice
dynamic_at-splice at r bytes inside fits = dynamic_again at r (take at bytes)
    (drop (at + length (dynamic_bytes r)) bytes) (length-take-le at bytes inside) fits

-- a record depends only on its own bytes
pub header_at-own : (at : ℕ) (xs : List ℕ) → header_at 0 (part_at 64 at xs) ≡ header_at at xs
unfolding header_at
header_at-own at xs =
    let ident = part_at-own 16 0 64 at xs (omega arith) ∙ ap (λ p. part_at 16 p xs) (add-zero at) in
    header_is 0 (header_at at xs) (part_at 64 at xs) ident
    (reads-own 64 at 16 (header_fields (header_at at xs)) xs (omega arith) (header_reads at xs))

pub section_at-own : (at : ℕ) (xs : List ℕ) → section_at 0 (part_at 64 at xs) ≡ section_at at xs
section_at-own at xs =
    section_is 0 (section_at at xs) (part_at 64 at xs)
    (reads-own 64 at 0 (section_fields (section_at at xs)) xs (omega arith) (section_reads at xs))

pub symbol_at-own : (at : ℕ) (xs : List ℕ) → symbol_at 0 (part_at 24 at xs) ≡ symbol_at at xs
symbol_at-own at xs =
    symbol_is 0 (symbol_at at xs) (part_at 24 at xs)
    (reads-own 24 at 0 (symbol_fields (symbol_at at xs)) xs (omega arith) (symbol_reads at xs))

pub rela_at-own : (at : ℕ) (xs : List ℕ) → rela_at 0 (part_at 24 at xs) ≡ rela_at at xs
unfolding rela_at
rela_at-own at xs = rw (
  number_at-own 8 0 24 at xs (omega arith),
  number_at-own 8 8 24 at xs (omega arith),
  number_at-own 8 16 24 at xs (omega arith),
  add-zero at,
) refl

pub segment_at-own : (at : ℕ) (xs : List ℕ) → segment_at 0 (part_at 56 at xs) ≡ segment_at at xs
segment_at-own at xs =
    segment_is 0 (segment_at at xs) (part_at 56 at xs)
    (reads-own 56 at 0 (segment_fields (segment_at at xs)) xs (omega arith) (segment_reads at xs))

pub dynamic_at-own : (at : ℕ) (xs : List ℕ) → dynamic_at 0 (part_at 16 at xs) ≡ dynamic_at at xs
dynamic_at-own at xs =
    dynamic_is 0 (dynamic_at at xs) (part_at 16 at xs)
    (reads-own 16 at 0 (dynamic_fields (dynamic_at at xs)) xs (omega arith) (dynamic_reads at xs))

-- a record in the part from i to j is the record i bytes further on in the whole
pub header_at-part : (at i j : ℕ) (xs : List ℕ) → at + 64 ≤ j - i
    → header_at at (slice_range xs i j) ≡ header_at (i + at) xs
unfolding header_at
header_at-part at i j xs within =
    header_is at (header_at (i + at) xs) (slice_range xs i j) (part_at-part 16 at i j xs (omega arith))
    (reads-part at i j 16 (header_fields (header_at (i + at) xs)) xs (omega arith) (header_reads (i + at) xs))

pub section_at-part : (at i j : ℕ) (xs : List ℕ) → at + 64 ≤ j - i
    → section_at at (slice_range xs i j) ≡ section_at (i + at) xs
section_at-part at i j xs within =
    section_is at (section_at (i + at) xs) (slice_range xs i j)
    (reads-part at i j 0 (section_fields (section_at (i + at) xs)) xs (omega arith) (section_reads (i + at) xs))

pub symbol_at-part : (at i j : ℕ) (xs : List ℕ) → at + 24 ≤ j - i
    → symbol_at at (slice_range xs i j) ≡ symbol_at (i + at) xs
symbol_at-part at i j xs within =
    symbol_is at (symbol_at (i + at) xs) (slice_range xs i j)
    (reads-part at i j 0 (symbol_fields (symbol_at (i + at) xs)) xs (omega arith) (symbol_reads (i + at) xs))

pub rela_at-part : (at i j : ℕ) (xs : List ℕ) → at + 24 ≤ j - i
    → rela_at at (slice_range xs i j) ≡ rela_at (i + at) xs
unfolding rela_at
rela_at-part at i j xs within =
    rw (
      number_at-part 8 at i j xs (omega arith),
      number_at-field 8 8 at i j xs (omega arith),
      number_at-field 8 16 at i j xs (omega arith),
    ) refl

pub segment_at-part : (at i j : ℕ) (xs : List ℕ) → at + 56 ≤ j - i
    → segment_at at (slice_range xs i j) ≡ segment_at (i + at) xs
segment_at-part at i j xs within =
    segment_is at (segment_at (i + at) xs) (slice_range xs i j)
    (reads-part at i j 0 (segment_fields (segment_at (i + at) xs)) xs (omega arith) (segment_reads (i + at) xs))

pub dynamic_at-part : (at i j : ℕ) (xs : List ℕ) → at + 16 ≤ j - i
    → dynamic_at at (slice_range xs i j) ≡ dynamic_at (i + at) xs
dynamic_at-part at i j xs within =
    dynamic_is at (dynamic_at (i + at) xs) (slice_range xs i j)
    (reads-part at i j 0 (dynamic_fields (dynamic_at (i + at) xs)) xs (omega arith) (dynamic_reads (i + at) xs))
