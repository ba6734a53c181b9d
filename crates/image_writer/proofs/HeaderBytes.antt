-- What a file says whose first 4096 bytes are a page of headers: the header and each program header are read as they
-- were written.
use Rattle.std.proofs.Common.{◌≡◌, ◌+◌, ◌-◌, ◌*◌, ◌^◌, ◌<◌, ◌≤◌, ℕ, List, [], ◌++◌, length, take, replicate, rules}
use Rattle.std.proofs.Common.{slice_index_or, refl, sym, ap, ◌∙◌, arith, append-nil, length-append}
use Rattle.std.proofs.lemmas.List.{length-take}
use Rattle.std.proofs.lemmas.List.{length-replicate}
use Rattle.std.specs.List.{flat_map}
use Rattle.elf_records.specs.declared.program_header.Segment.{Segment}
use Rattle.elf_records.specs.Fields.{part_at}
use Rattle.elf_records.specs.Laws.{part_at-take}
use Rattle.elf_records.specs.Records.{header_at, segment_at, header_bytes, segment_bytes}
use Rattle.elf_records.specs.FittingRecords.{FitsSegment, FitsHeader}
use Rattle.elf_records.specs.RecordLaws.{header_at-own, header_again, segment_at-own, segment_again}
use Rattle.elf_records.specs.RecordLaws.{length-header_bytes, length-segment_bytes}
use Rattle.image_rules.specs.declared.places.FileKind.{FileKind}
use Rattle.image_rules.specs.declared.places.FileKind.TheVariants.{Exe, Pie, Module}
use Rattle.image_faults.specs.Parts.{header, segment}
use Rattle.image_writer.specs.Outlined.{Outlined}
use Rattle.image_writer.specs.Page.{type_of, program_headers, page, header_of}
use Rattle.image_writer.proofs.Rows.{length_rows, row_at}
use Rattle.image_writer.proofs.FileHeader.{file_header}

-- the type of a file is a number of two bytes
type_fits : (k : FileKind) → type_of k < 256 ^ 2
type_fits Exe = omega arith
type_fits Pie = omega arith
type_fits Module = omega arith

-- the header's numbers lie in the range of their types
pub header_fits : (o : Outlined) → length (program_headers o) ≤ 10 → FitsHeader (file_header o)
unfolding header_of
header_fits o few = search (rules, type_fits, arith)

-- the page takes 4096 bytes
pub length_page : (o : Outlined) → length (program_headers o) ≤ 10 → length (page o) ≡ 4096
unfolding page
length_page o few =
    let fits = header_fits o few in
    let front = length-header_bytes (file_header o) fits.0 in
    let rows = length_rows segment_bytes 56 (program_headers o) length-segment_bytes in
    let outer = length-append (header_bytes (file_header o))
    (flat_map segment_bytes (program_headers o) ++ replicate (4032 - 56 * length (program_headers o)) 0) in
    let inner = length-append (flat_map segment_bytes (program_headers o))
    (replicate (4032 - 56 * length (program_headers o)) 0) in
    let zeros = length-replicate {A = ℕ} (4032 - 56 * length (program_headers o)) 0 in
    outer ∙ omega arith

-- the file is no shorter
pub long_enough : (f : List ℕ) (o : Outlined) → take 4096 f ≡ page o → length (program_headers o) ≤ 10 → 4096 ≤ length f
long_enough f o leads few = omega (arith, length-take 4096 f, length_page o few, ap length leads)

-- a part of the page is that part of the file
part_led : (f p : List ℕ) (n at : ℕ) → take 4096 f ≡ p → at + n ≤ 4096 → part_at n at f ≡ part_at n at p
part_led f p n at leads within = sym (part_at-take n at 4096 f within) ∙ ap (part_at n at) leads

-- the header
pub header_led : (f : List ℕ) (o : Outlined) → take 4096 f ≡ page o → length (program_headers o) ≤ 10
    → header f ≡ file_header o
unfolding header page
header_led f o leads few =
    let rest = flat_map segment_bytes (program_headers o) ++ replicate (4032 - 56 * length (program_headers o)) 0 in
    sym (header_at-own 0 f)
    ∙ ap (header_at 0) (part_led f (header_bytes (file_header o) ++ rest) 64 0 leads (omega arith))
    ∙ header_at-own 0 (header_bytes (file_header o) ++ rest)
    ∙ header_again 0 (file_header o) [] rest refl (header_fits o few)

-- a segment's bytes alone are read as it
segment_alone : (s : Segment) → FitsSegment s → segment_at 0 (segment_bytes s) ≡ s
segment_alone s fits = ap (segment_at 0) (sym (append-nil (segment_bytes s))) ∙ segment_again 0 s [] [] refl fits

-- program header i
pub segment_led : (f : List ℕ) (o : Outlined) (i : ℕ) (s d : Segment) → take 4096 f ≡ page o
    → length (program_headers o) ≤ 10
    → i < length (program_headers o) → slice_index_or (program_headers o) i d ≡ s → FitsSegment s → segment f i ≡ s
unfolding segment page
segment_led f o i s d leads few below is fits =
    let back : List ℕ = replicate (4032 - 56 * length (program_headers o)) 0 in
    let front : length (header_bytes (file_header o)) ≡ 64 =
    length-header_bytes (file_header o) (header_fits o few).0 in
    sym (segment_at-own (64 + 56 * i) f)
    ∙ ap (segment_at 0) (
    part_led f (header_bytes (file_header o) ++ (flat_map segment_bytes (program_headers o) ++ back)) 56
    (64 + 56 * i) leads (omega arith)
    ∙ row_at segment_bytes 56 (program_headers o) i d 64
    (header_bytes (file_header o)) back front length-segment_bytes below
    ∙ ap segment_bytes is
    )
    ∙ segment_alone s fits
