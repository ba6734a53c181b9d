-- A file of an image that was read: its headers say what those of the image did, and its parts hold the same bytes.
use Rattle.std.proofs.Common.{◌≡◌, ◌+◌, ◌-◌, ◌<◌, ◌≤◌, ◌⊎◌, ◌∙◌, ℕ, Bool, true, false, List, length, Option, Some, None}
use Rattle.std.proofs.Common.{is_some, refl, sym, ap, inl}
use Rattle.std.proofs.Common.{inr, arith, ◌==◌, if◌then◌else◌, slice_range}
use Rattle.std.specs.Option.{option_map}
use Rattle.elf_records.specs.Fields.{part_at}
use Rattle.elf_records.specs.declared.file_header.TheConstants.{ET_EXEC, ET_DYN}
use Rattle.elf_records.specs.declared.dynamic.TheConstants.{DT_FLAGS_1}
use Rattle.elf_records.specs.declared.file_header.Header.{Header}
use Rattle.elf_records.specs.declared.program_header.Segment.{Segment}
use Rattle.image_rules.specs.declared.rule.FieldRule.TheVariants.{FileType}
use Rattle.image_rules.specs.declared.places.FileKind.{FileKind}
use Rattle.image_rules.specs.declared.places.FileKind.TheVariants.{Exe, Pie, Module}
use Rattle.image_faults.specs.Parts.{header, segment, loads, base, last, has_tls, tls, tls_size}
use Rattle.image_faults.specs.Segments.{IsClass}
use Rattle.image_faults.specs.Array.{has_tag, flags_entry}
use Rattle.image_faults.specs.Places.{file_kind}
use Rattle.image_faults.specs.Faults.{IsImage}
use Rattle.image_file.specs.declared.part.TlsPart.{TlsPart}
use Rattle.image_file.specs.Spelled.{part as part_read, class_numbered, tls_part, spelled}
use Rattle.image_file.specs.Tabled.{tabled_at}
use Rattle.image_writer.specs.Outlined.{Outlined, outline_of, part, last_part, end_of}
use Rattle.image_writer.specs.Page.{base_of, flags_of, type_of, file_offset, load_header, dynamic_header, header_of}
use Rattle.image_writer.specs.Loadable.{HoldsTls}
use Rattle.image_writer.specs.Files.{IsFileOf}
use Rattle.image_writer.proofs.Headed.{IsHeaded, headed}
use Rattle.image_writer.proofs.Loaded.{loadable}
use Rattle.image_writer.proofs.Positive.{field_right, segment_in, load_right, dynamic_right}
use Rattle.image_writer.proofs.Seen.{IsSeen, place, seen}
use Rattle.image_writer.proofs.SameBytes.{HoldSame, range_is_part, part_length, part_inside}
use Rattle.image_writer.proofs.SameArray.{SameHeaders}
use Rattle.image_writer.proofs.FileHeader.{file_header}

-- the flags of a class are those that it was read from
flags_again : (s : Segment) → IsClass s → flags_of (class_numbered s.flags) ≡ s.flags
flags_again s class = elim class [
  | inl code ↦ rw code refl
  | inr other ↦ elim other [
    | inl constant ↦ rw constant refl
    | inr written ↦ rw written refl
  ]
]

-- the type of a file that is told again
type_again : (n : ℕ) (c : Bool) → (n ≡ ET_EXEC) ⊎ (n ≡ ET_DYN)
    → type_of (if n == ET_DYN then (if c then Pie else Module) else Exe) ≡ n
type_again n c kind = elim kind [
  | inl exe ↦ rw exe refl
  | inr dyn ↦ rw dyn (by_flag c)
]
  where
    by_flag : (c : Bool) → type_of (if c then Pie else Module) ≡ ET_DYN
    by_flag true = refl
    by_flag false = refl

-- where a LOAD stands in the file
pub offset_again : (kind : FileKind) (b : List ℕ) (s : Segment) → base_of kind ≡ base b
    → s.vaddr + 4096 ≡ s.offset + base b
    → file_offset kind s.vaddr ≡ s.offset
offset_again kind b s based placed = less s.vaddr s.offset (base_of kind) (base b) based placed
  where
    less : (v o k m : ℕ) → k ≡ m → v + 4096 ≡ o + m → v + 4096 - k ≡ o
    less v o k m based placed = omega arith

-- each LOAD of the image: its header in the file is one made of what was read
load_made : (b f : List ℕ) (o : Outlined) → IsSeen b o → IsHeaded f o → (i : ℕ) → i < loads b
    → segment f i ≡ load_header o.kind (place b i)
load_made b f o saw leads i h =
    leads.load_is i (omega (arith, saw.parts_are)) ∙ ap (load_header o.kind) (saw.part_is i h)

-- what a header that was made says
made_flags : (b : List ℕ) (kind : FileKind) (i : ℕ)
    → (load_header kind (place b i)).flags ≡ flags_of (class_numbered (segment b i).flags)
unfolding load_header place
made_flags b kind i = refl

made_offset : (b : List ℕ) (kind : FileKind) (i : ℕ)
    → (load_header kind (place b i)).offset ≡ file_offset kind (segment b i).vaddr
unfolding load_header place
made_offset b kind i = refl

made_vaddr : (b : List ℕ) (kind : FileKind) (i : ℕ) → (load_header kind (place b i)).vaddr ≡ (segment b i).vaddr
unfolding load_header place
made_vaddr b kind i = refl

made_filesz : (b : List ℕ) (kind : FileKind) (i : ℕ) → (load_header kind (place b i)).filesz ≡ (segment b i).filesz
unfolding load_header place
made_filesz b kind i = refl

made_memsz : (b : List ℕ) (kind : FileKind) (i : ℕ) → (load_header kind (place b i)).memsz ≡ (segment b i).filesz
unfolding load_header place
made_memsz b kind i = refl

made_array : (o : Outlined) → (dynamic_header o).filesz ≡ o.array_size
unfolding dynamic_header
made_array o = refl

made_type : (o : Outlined) → (file_header o).e_type ≡ type_of o.kind
unfolding header_of
made_type o = refl

-- how many LOADs the file has
same_loads : (b f : List ℕ) (o : Outlined) → IsSeen b o → IsHeaded f o → loads f ≡ loads b
same_loads b f o saw leads = leads.loads_are ∙ saw.parts_are

-- what an image's TLS segment says of its size
abbrev size_of : Option TlsPart → ℕ
size_of None = 0
size_of (Some t) = t.size

-- a test by a choice
some_if : (c : Bool) (s : Segment) → is_some (option_map tls_part (if c then Some s else None)) ≡ c
some_if true s = refl
some_if false s = refl

-- the size by a choice
size_if : (c : Bool) (s : Segment)
    → size_of (option_map tls_part (if c then Some s else None)) ≡ (if c then s.memsz else 0)
size_if true s = refl
size_if false s = refl

-- the TLS segment of the file is that of the image
pub same_tls : (b f : List ℕ) (o : Outlined) → IsSeen b o → IsHeaded f o
    → option_map tls_part (tls f) ≡ option_map tls_part (tls b)
same_tls b f o saw leads = leads.tls_is ∙ saw.tls_is

-- there is one in both or in neither
same_has_tls : (b f : List ℕ) → option_map tls_part (tls f) ≡ option_map tls_part (tls b) → has_tls f ≡ has_tls b
same_has_tls b f same =
    sym (some_if (has_tls f) (segment f (loads f + 1)))
    ∙ ap (λ t. is_some t) same
    ∙ some_if (has_tls b) (segment b (loads b + 1))

-- of the same size
same_tls_size : (b f : List ℕ) → option_map tls_part (tls f) ≡ option_map tls_part (tls b) → tls_size f ≡ tls_size b
same_tls_size b f same =
    sym (size_if (has_tls f) (segment f (loads f + 1)))
    ∙ ap size_of same
    ∙ size_if (has_tls b) (segment b (loads b + 1))

-- the bytes of a part that was read
read_bytes : (b : List ℕ) (i : ℕ)
    → (part_read b i).bytes ≡ slice_range b (segment b i).offset ((segment b i).offset + (segment b i).filesz)
unfolding part_read
read_bytes b i = refl

read_address : (b : List ℕ) (i : ℕ) → (part_read b i).address ≡ (segment b i).vaddr
unfolding part_read
read_address b i = refl

-- bytes of a part that stand at its place in a file
part_there : (f b p : List ℕ) (n m at from : ℕ) → part_at n at f ≡ p → p ≡ part_at m from b → n ≡ m → at ≡ from
    → HoldSame m from f b
part_there f b p n m at from here read size placed =
    ap (λ k. part_at k from f) (sym size) ∙ ap (λ k. part_at n k f) (sym placed) ∙ here ∙ read

-- each part of the file holds the bytes of the image
pub same_part_bytes : (b f : List ℕ) → IsImage b → IsFileOf f (spelled b) → (i : ℕ) → i < loads b
    → HoldSame (segment b i).filesz (segment b i).offset f b
same_part_bytes b f image file i h =
    let s : Segment = segment b i in
    let inside : s.offset + s.filesz ≤ length b = segment_in b image i (omega (arith, h, (dynamic_right b image).1)) in
    let read : (part_read b i).bytes ≡ part_at s.filesz s.offset b = read_bytes b i
    ∙ range_is_part s.filesz s.offset b in
    let size : length (part_read b i).bytes ≡ s.filesz = ap length read ∙ part_length s.filesz s.offset b inside in
    let based : base_of (file_kind b) ≡ base b = (seen b image).base_is in
    let placed : file_offset (file_kind b) (part_read b i).address ≡ s.offset =
    ap (file_offset (file_kind b)) (read_address b i)
    ∙ offset_again (file_kind b) b s based (load_right b image i h).0 in
    part_there f b (part_read b i).bytes (length (part_read b i).bytes) s.filesz
    (file_offset (file_kind b) (part_read b i).address) s.offset
    (file.parts_are i (part_read b i) (tabled_at (part_read b) (loads b) i h))
    read size placed

-- where the last part ends in the file
end_place : (kind : FileKind) (b : List ℕ) (s : Segment) → base_of kind ≡ base b → s.vaddr + 4096 ≡ s.offset + base b
    → file_offset kind (s.vaddr + s.filesz) ≡ s.offset + s.filesz
end_place kind b s based placed = less s.vaddr s.offset s.filesz (base_of kind) (base b) based placed
  where
    less : (v o n k m : ℕ) → k ≡ m → v + 4096 ≡ o + m → v + n + 4096 - k ≡ o + n
    less v o n k m based placed = omega arith

-- the end of a place that was read
end_made : (b : List ℕ) (i : ℕ) → end_of (place b i) ≡ (segment b i).vaddr + (segment b i).filesz
unfolding place
end_made b i = refl

-- there is a LOAD
some_load : (b : List ℕ) → IsImage b → 0 < loads b
some_load b image = (dynamic_right b image).0

-- the last LOAD
last_in : (b : List ℕ) → IsImage b → loads b - 1 < loads b
last_in b image = omega (arith, some_load b image)

-- the outline's last part is the last LOAD
last_seen : (b : List ℕ) (o : Outlined) → IsSeen b o → loads b - 1 < loads b → last_part o ≡ place b (loads b - 1)
last_seen b o saw h = ap (λ n. part o (n - 1)) saw.parts_are ∙ saw.part_is (loads b - 1) h

-- the file is as long as its last part says
pub long_enough : (b f : List ℕ) → IsImage b → IsFileOf f (spelled b)
    → file_offset (file_kind b) (end_of (last_part (outline_of (spelled b)))) ≤ length f
long_enough b f image file =
    let saw = seen b image in
    let h = last_in b image in
    let right = load_right b image (loads b - 1) h in
    let inside : (last b).offset + (last b).filesz ≤ length b =
    segment_in b image (loads b - 1) (omega (arith, h, (dynamic_right b image).1)) in
    let same : HoldSame (last b).filesz (last b).offset f b = same_part_bytes b f image file (loads b - 1) h in
    let long : length (part_at (last b).filesz (last b).offset f) ≡ (last b).filesz =
    ap length same ∙ part_length (last b).filesz (last b).offset b inside in
    let filled : 0 < (last b).filesz = some_bytes (last b).filesz (last b).memsz right.2.0 right.2.1 in
    let there = part_inside (last b).filesz (last b).offset f filled long in
    let ends : file_offset (file_kind b) (end_of (last_part (outline_of (spelled b))))
    ≡ (last b).offset + (last b).filesz =
    ap (λ p. file_offset (file_kind b) (end_of p)) (last_seen b (outline_of (spelled b)) saw h)
    ∙ ap (file_offset (file_kind b)) (end_made b (loads b - 1))
    ∙ end_place (file_kind b) b (last b) saw.base_is right.0 in
    at_most _ _ _ ends there
  where
    some_bytes : (n m : ℕ) → n ≡ m → 0 < m → 0 < n
    some_bytes n m e h = omega arith

    at_most : (m n l : ℕ) → m ≡ n → n ≤ l → m ≤ l
    at_most m n l e h = omega arith

-- the file's headers
pub file_headed : (b f : List ℕ) → IsImage b → HoldsTls (outline_of (spelled b)) → IsFileOf f (spelled b)
    → IsHeaded f (outline_of (spelled b))
file_headed b f image holds file =
    headed f (outline_of (spelled b)) file.page_is (loadable b image) holds (long_enough b f image file)

-- they say what those of the image do
pub same_headers : (b f : List ℕ) → IsImage b → IsFileOf f (spelled b) → IsHeaded f (outline_of (spelled b))
    → SameHeaders f b
same_headers b f image file leads =
    let o = outline_of (spelled b) in
    let saw = seen b image in
    let tls_is = same_tls b f o saw leads in
    record {
      file_type =
          ap (λ (h : Header). h.e_type) leads.header_is ∙ made_type o
          ∙ type_again (header b).e_type (has_tag b (flags_entry b) DT_FLAGS_1) (field_right b image FileType);
      loads_are = same_loads b f o saw leads;
      flags_are = λ i h.
          ap (λ (s : Segment). s.flags) (load_made b f o saw leads i h) ∙ made_flags b (file_kind b) i
          ∙ flags_again (segment b i) (load_right b image i h).1;
      offset_is = λ i h.
          ap (λ (s : Segment). s.offset) (load_made b f o saw leads i h) ∙ made_offset b (file_kind b) i
          ∙ offset_again (file_kind b) b (segment b i) saw.base_is (load_right b image i h).0;
      vaddr_is = λ i h. ap (λ (s : Segment). s.vaddr) (load_made b f o saw leads i h) ∙ made_vaddr b (file_kind b) i;
      filesz_is = λ i h. ap (λ (s : Segment). s.filesz) (load_made b f o saw leads i h) ∙ made_filesz b (file_kind b) i;
      memsz_is = λ i h.
          ap (λ (s : Segment). s.memsz) (load_made b f o saw leads i h) ∙ made_memsz b (file_kind b) i
          ∙ (load_right b image i h).2.0;
      array_size_is =
          ap (λ n. (segment f n).filesz) (leads.loads_are)
          ∙ ap (λ (s : Segment). s.filesz) leads.dynamic_is ∙ made_array o;
      has_tls_is = same_has_tls b f tls_is;
      tls_size_is = same_tls_size b f tls_is;
      some = some_load b image;
      array_in = (dynamic_right b image).5;
      last_bytes = same_part_bytes b f image file (loads b - 1) (last_in b image);
    }
