-- The outline of finished contents, and where a file of it holds the dynamic tables.
use Rattle.std.proofs.Common.{◌≡◌, ◌+◌, ◌-◌, ◌^◌, ◌<◌, ◌≤◌, ℕ, List, [], ◌∷◌, ◌++◌, length, get_or, drop, Some}
use Rattle.std.proofs.Common.{refl, ap, ◌∙◌, arith, length-take, length-drop}
use Rattle.std.proofs.lemmas.List.{get_or-map, get_or_append_left, get_or_push, length-map, length_push}
use Rattle.std.proofs.lemmas.Option.{slice_get-get_or}
use Rattle.elf_records.specs.Fields.{part_at}
use Rattle.elf_records.specs.declared.program_header.Segment.{Segment}
use Rattle.image_rules.specs.declared.places.FileKind.{FileKind}
use Rattle.image_rules.specs.declared.places.FileKind.TheVariants.{Exe, Pie, Module}
use Rattle.image_faults.specs.Parts.{header, last, loads, segment}
use Rattle.image_file.specs.Spelled.{Part}
use Rattle.image_writer.specs.Outlined.{end_of, last_part, no_part, outline_of, part, place_of}
use Rattle.image_writer.specs.Page.{base_of, dynamic_header, file_offset, load_header, type_of, header_of}
use Rattle.image_writer.specs.Contents.{Contents, tables_address}
use Rattle.image_writer.specs.Tables.{finished, tables, tables_part}
use Rattle.image_writer.specs.Loadable.{IsLoadable, IsRightPart}
use Rattle.image_writer.specs.Files.{IsFileOf}
use Rattle.image_writer.proofs.Headed.{IsHeaded}
use Rattle.image_writer.proofs.TableSeen.{IsSeen}

-- it has one part more than the contents
pub part_count : (c : Contents) → length (outline_of (finished c)).parts ≡ length c.parts + 1
unfolding finished
part_count c = length-map (c.parts ++ (tables_part c ∷ [])) place_of ∙ length_push c.parts (tables_part c)

-- the last
pub tables_place : (c : Contents) → part (outline_of (finished c)) (length c.parts) ≡ place_of (tables_part c)
unfolding finished
tables_place c =
    let more = length_push c.parts (tables_part c) in
    get_or-map place_of (c.parts ++ (tables_part c ∷ [])) (length c.parts) (tables_part c) no_part (omega (arith, more))
    ∙ ap place_of (get_or_push c.parts (tables_part c) (tables_part c) (length c.parts) refl)

-- the last of its parts is that of the tables
pub last_place : (c : Contents) → last_part (outline_of (finished c)) ≡ place_of (tables_part c)
last_place c =
    let count = part_count c in
    let before : length (outline_of (finished c)).parts - 1 ≡ length c.parts = omega (arith, count) in
    ap (part (outline_of (finished c))) before ∙ tables_place c

-- those before it
pub part_place : (c : Contents) (i : ℕ) (d : Part) → i < length c.parts
    → part (outline_of (finished c)) i ≡ place_of (get_or c.parts i d)
unfolding finished
part_place c i d below =
    let more = length_push c.parts (tables_part c) in
    get_or-map place_of (c.parts ++ (tables_part c ∷ [])) i d no_part (omega (arith, more))
    ∙ ap place_of (get_or_append_left c.parts (tables_part c ∷ []) d i below)

-- the file holds the tables
pub tables_here : (c : Contents) (f : List ℕ) → IsFileOf f (finished c)
    → part_at (length (tables c)) (file_offset c.kind (tables_address c)) f ≡ tables c
unfolding finished tables_part
tables_here c f file =
    let more = length_push c.parts (tables_part c) in
    file.parts_are (length c.parts) (tables_part c)
    (slice_get-get_or (c.parts ++ (tables_part c ∷ [])) (length c.parts) (tables_part c) (omega (arith, more))
    ∙ ap Some (get_or_push c.parts (tables_part c) (tables_part c) (length c.parts) refl))

-- what the last part keeps
pub tables_right : (c : Contents) → IsLoadable (outline_of (finished c))
    → IsRightPart (outline_of (finished c)) (length c.parts)
tables_right c loadable =
    let count = part_count c in
    loadable.parts (length c.parts) (omega (arith, count))

-- no image begins above 4 MiB
pub base_low : (kind : FileKind) → base_of kind ≤ 4194304
base_low Exe = omega arith
base_low Pie = omega arith
base_low Module = omega arith

-- the tables end below 68 MiB
pub tables_small : (c : Contents) → IsLoadable (outline_of (finished c))
    → tables_address c + length (tables c) ≤ 71303168
unfolding finished tables_part
tables_small c loadable =
    let right = tables_right c loadable in
    let place = tables_place c in
    let low = base_low c.kind in
    let end : end_of (part (outline_of (finished c)) (length c.parts)) ≡ tables_address c + length (tables c) =
    ap end_of place in
    let below : end_of (part (outline_of (finished c)) (length c.parts)) ≤ base_of c.kind + 2 ^ 26 = right.below in
    omega (arith, low, end, below)

-- a part that is not empty lies in its file
lies : (n at : ℕ) (f bytes : List ℕ) → part_at n at f ≡ bytes → length bytes ≡ n → 0 < n → at + n ≤ length f
unfolding part_at
lies n at f bytes here long some =
    let first = length-take n (drop at f) in
    let second = length-drop at f in
    let same = ap length here in
    omega (arith, first, second, same)

-- the end of a part, as an offset in the file
offset_end : (base address size : ℕ) → base ≤ address → address + size + 4096 - base ≡ address + 4096 - base + size
offset_end base address size above = omega arith

-- the file is as long as its headers say
pub long_enough : (c : Contents) (f : List ℕ) → IsLoadable (outline_of (finished c)) → IsFileOf f (finished c)
    → file_offset (outline_of (finished c)).kind (end_of (last_part (outline_of (finished c)))) ≤ length f
unfolding finished tables_part
long_enough c f loadable file =
    let right = tables_right c loadable in
    let place = tables_place c in
    let size : (part (outline_of (finished c)) (length c.parts)).size ≡ length (tables c) = ap (λ p. p.size) place in
    let address : (part (outline_of (finished c)) (length c.parts)).address ≡ tables_address c =
    ap (λ p. p.address) place in
    let filled : 0 < (part (outline_of (finished c)) (length c.parts)).size = right.filled in
    let above : base_of c.kind ≤ (part (outline_of (finished c)) (length c.parts)).address = right.above in
    let some : 0 < length (tables c) = omega (arith, size, filled) in
    let begun : base_of c.kind ≤ tables_address c = omega (arith, address, above) in
    let inside = lies (length (tables c)) (file_offset c.kind (tables_address c)) f (tables c)
    (tables_here c f file) refl some in
    let end : end_of (last_part (outline_of (finished c))) ≡ tables_address c + length (tables c) =
    ap end_of (last_place c) in
    let same = offset_end (base_of c.kind) (tables_address c) (length (tables c)) begun in
    let offset : file_offset c.kind (end_of (last_part (outline_of (finished c))))
    ≡ file_offset c.kind (tables_address c) + length (tables c) = ap (file_offset c.kind) end ∙ same in
    omega (arith, inside, offset)

-- the last LOAD
pub last_is : (c : Contents) (f : List ℕ) → IsHeaded f (outline_of (finished c))
    → last f ≡ load_header c.kind (place_of (tables_part c))
unfolding finished
last_is c f headed =
    let count = part_count c in
    let many = headed.loads_are in
    let before : loads f - 1 ≡ length c.parts = omega (arith, count, many) in
    ap (segment f) before ∙ headed.load_is (length c.parts) (omega (arith, count))
    ∙ ap (load_header c.kind) (tables_place c)

-- what is seen of the tables
pub seen_is : (c : Contents) (f : List ℕ) → IsHeaded f (outline_of (finished c)) → IsLoadable (outline_of (finished c))
    → IsFileOf f (finished c) → IsSeen f c
unfolding finished tables_part load_header dynamic_header
seen_is c f headed loadable file =
    let here = last_is c f headed in
    record {
      offset_is = ap (λ (s : Segment). s.offset) here;
      address_is = ap (λ (s : Segment). s.vaddr) here;
      size_is = ap (λ (s : Segment). s.filesz) here;
      array_is = ap (λ n. (segment f n).filesz) headed.loads_are ∙ ap (λ (s : Segment). s.filesz) headed.dynamic_is;
      here = tables_here c f file;
      small = tables_small c loadable;
    }

-- the type of the file
pub type_is : (c : Contents) (f : List ℕ) → IsHeaded f (outline_of (finished c)) → (header f).e_type ≡ type_of c.kind
unfolding finished header_of
type_is c f headed = ap (λ h. h.e_type) headed.header_is
