-- The page of headers, put piece by piece.
use Rattle.std.proofs.Common.{ℕ, ◌+◌, ◌-◌, ◌*◌, ◌≤◌, ◌≡◌, Bool, Option, Some, None, List, ◌∷◌, ◌++◌, length, map}
use Rattle.std.proofs.Common.{replicate, refl, sym, ap, ◌∙◌, arith, append_assoc, length-append}
use Rattle.std.specs.Prelude.{is_some}
use mir.Val.{bool_byte}
use Rattle.std.specs.List.{flat_map}
use Rattle.std.proofs.lemmas.List.{length-map}
use Rattle.std.proofs.lemmas.List.Concat.{flat_map-append}
use Rattle.elf_records.specs.Fields.{splice}
use Rattle.elf_records.specs.Records.{header_bytes, segment_bytes}
use Rattle.elf_records.specs.RecordLaws.{length-header_bytes, length-segment_bytes}
use Rattle.elf_records.specs.declared.program_header.Segment.{Segment}
use Rattle.image_rules.specs.declared.places.FileKind.{FileKind}
use Rattle.image_file.specs.declared.part.TlsPart.{TlsPart}
use Rattle.image_writer.specs.Headers.{loads_bytes}
use Rattle.image_writer.specs.Loadable.{one_if_some}
use Rattle.image_writer.specs.Outlined.{Outlined}
use Rattle.image_writer.specs.Page.{load_header, dynamic_header, tls_headers, relro_headers, program_headers, page}
use Rattle.image_writer.specs.Page.{header_of}
use Rattle.image_writer.proofs.Puts.{length-items, put_next}
use Rattle.image_writer.proofs.FileHeader.{file_header}

-- what a test of an option counts
pub one_if-is : {X : Type 0} (o : Option X) (b : Bool) (n : ℕ) → b ≡ is_some o → n ≡ bool_byte b → n ≡ one_if_some o
one_if-is None b n is counted = counted ∙ ap bool_byte is
one_if-is (Some x) b n is counted = counted ∙ ap bool_byte is

-- how many headers there are
pub tls_headers-count : (kind : FileKind) (t : Option TlsPart) → length (tls_headers kind t) ≡ one_if_some t
tls_headers-count kind None = refl
tls_headers-count kind (Some t) = refl

pub relro_headers-count : (o : Outlined) (g : Option ℕ) → length (relro_headers o g) ≡ one_if_some g
relro_headers-count o None = refl
relro_headers-count o (Some g) = refl

pub program_headers-count : (o : Outlined)
    → length (program_headers o) ≡ length o.parts + 1 + one_if_some o.tls + one_if_some o.got
unfolding program_headers
program_headers-count o =
    let all = length-append (map (load_header o.kind) o.parts)
    (dynamic_header o ∷ (tls_headers o.kind o.tls ++ relro_headers o o.got)) in
    let loads = length-map o.parts (load_header o.kind) in
    let behind = length-append (tls_headers o.kind o.tls) (relro_headers o o.got) in
    let tls = tls_headers-count o.kind o.tls in
    let relro = relro_headers-count o o.got in
    omega arith

-- how many bytes headers have
pub length-segments : (headers : List Segment) → length (flat_map segment_bytes headers) ≡ 56 * length headers
length-segments headers = length-items segment_bytes 56 headers length-segment_bytes

-- the program headers, put in four steps
pub put_headers : (o : Outlined) (at next after last : ℕ) (bytes one two three four : List ℕ)
    → next ≡ at + 56 * length o.parts → after ≡ next + 56 → last ≡ after + 56 * one_if_some o.tls → at ≤ length bytes
    → one ≡ splice at (loads_bytes o) bytes → two ≡ splice next (segment_bytes (dynamic_header o)) one
    → three ≡ splice after (flat_map segment_bytes (tls_headers o.kind o.tls)) two
    → four ≡ splice last (flat_map segment_bytes (relro_headers o o.got)) three
    → four ≡ splice at (flat_map segment_bytes (program_headers o)) bytes
unfolding program_headers
put_headers o at next after last bytes one two three four next-is after-is last-is inside first second third fourth =
    let loads = map (load_header o.kind) o.parts in
    let tls = tls_headers o.kind o.tls in
    let relro = relro_headers o o.got in
    let A = flat_map segment_bytes loads in
    let B = segment_bytes (dynamic_header o) in
    let C = flat_map segment_bytes tls in
    let D = flat_map segment_bytes relro in
    let count = length-map o.parts (load_header o.kind) in
    let long-a : length A ≡ 56 * length loads = length-segments loads in
    let long-b : length B ≡ 56 = length-segment_bytes (dynamic_header o) in
    let long-c : length C ≡ 56 * length tls = length-segments tls in
    let tls-count = tls_headers-count o.kind o.tls in
    let long-ab = length-append A B in
    let long-abc = length-append (A ++ B) C in
    let two-is = put_next at next A B bytes one two (omega arith) inside first second in
    let three-is = put_next at after (A ++ B) C bytes two three (omega arith) inside two-is third in
    let four-is = put_next at last ((A ++ B) ++ C) D bytes three four (omega arith) inside three-is fourth in
    four-is
    ∙ ap (λ ys. splice at ys bytes) (
    append_assoc (A ++ B) C D
    ∙ append_assoc A B (C ++ D)
    ∙ ap (λ ys. A ++ (B ++ ys)) (sym (flat_map-append segment_bytes tls relro))
    ∙ sym (flat_map-append segment_bytes loads (dynamic_header o ∷ (tls ++ relro)))
    )

-- the header
pub length-file_header : (o : Outlined) → length (header_bytes (file_header o)) ≡ 64
unfolding header_of
length-file_header o = length-header_bytes (file_header o) refl

-- the page, put in three steps
pub put_page : (o : Outlined) (at next last count : ℕ) (bytes one two three : List ℕ)
    → count ≡ length (program_headers o) → next ≡ at + 64 → last ≡ at + (64 + 56 * count) → at ≤ length bytes
    → one ≡ splice at (header_bytes (header_of o.kind count)) bytes
    → two ≡ splice next (flat_map segment_bytes (program_headers o)) one
    → three ≡ splice last (replicate (4096 - (64 + 56 * count)) 0) two
    → three ≡ splice at (page o) bytes
unfolding page
put_page o at next last count bytes one two three count-is next-is last-is inside first second third =
    let H = header_bytes (file_header o) in
    let P = flat_map segment_bytes (program_headers o) in
    let Z = replicate (4032 - 56 * length (program_headers o)) 0 in
    let long-h = length-file_header o in
    let long-p : length P ≡ 56 * length (program_headers o) = length-segments (program_headers o) in
    let long-hp = length-append H P in
    let header : header_of o.kind count ≡ file_header o = ap (header_of o.kind) count-is in
    let rest : 4096 - (64 + 56 * count) ≡ 4032 - 56 * length (program_headers o) = omega arith in
    let one-is : one ≡ splice at H bytes = first ∙ ap (λ h. splice at (header_bytes h) bytes) header in
    let two-is = put_next at next H P bytes one two (omega arith) inside one-is second in
    let three-is = put_next at last (H ++ P) Z bytes two three (omega arith) inside two-is
    (third ∙ ap (λ n. splice last (replicate n 0) two) rest) in
    three-is ∙ ap (λ ys. splice at ys bytes) (append_assoc H P Z)
