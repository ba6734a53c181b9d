-- What is kept of the bytes of sections: the bytes before the image is moved, and which of them belong to an address
-- that moves with it.
use Rattle.std.specs.Prelude.{◌+◌, ◌-◌, ◌&&◌, ℕ, Bool, true, false, List, [], ◌∷◌, Option, None, Some, fold, map}
use Rattle.std.specs.Prelude.{slice_index_or, unwrap_or, if◌then◌else◌}
use Rattle.std.specs.List.{find, range_with_len}
use Rattle.elf_object.specs.declared.relocation.Relocation.{Relocation}
use Rattle.elf_object.specs.Lent.{relocations, section_bytes, section_size}
use Rattle.elf_records.specs.declared.relocation.RelocationKind.{RelocationKind}
use Rattle.elf_records.specs.declared.relocation_row.FieldForm.{FieldForm}
use Rattle.elf_records.specs.declared.relocation_row.FieldForm.TheVariants.{Wrapped64}
use Rattle.elf_records.specs.RelocationRows.{row, is_offset}
use Rattle.link_faults.specs.declared.binding.Binding.{Binding}
use Rattle.link_faults.specs.declared.binding.Binding.TheVariants.{Here}
use Rattle.link_faults.specs.declared.image_kind.ImageKind.{ImageKind}
use Rattle.link_needs.specs.Linking.{Linking, address, binding, object, offset, place}
use Rattle.tls_relocs.specs.declared.fields.Field.{Field}
use Rattle.tls_relocs.specs.declared.fields.Field.TheVariants.{Empty, Word32, Word64}
use Rattle.tls_relocs.specs.Fields.{field_bytes}
use Rattle.tls_relocs.specs.FieldLaws.{field_patch}
use Rattle.tls_relocs.specs.Patches.{patched}
use Rattle.tls_relocs.specs.Values.{stored_field}
use Rattle.whole_meaning.specs.Bytes.{covers, has_value, subtracted}
use Rattle.whole_meaning.specs.Spots.{bias_of}
use Rattle.memory_image.specs.declared.fields.Table.{Table}
use Rattle.memory_image.specs.declared.fields.Table.TheVariants.{Bytes, Marks}

-- ** fields

-- S or O, before the image is moved
abbrev pub own_number : Linking → RelocationKind → Option Binding → ℕ
own_number l kind (Some (Here found)) = if is_offset kind then offset l found else address l found
own_number l kind bound = 0

-- how far P is taken as moved: with a symbol of the image it moves by the same distance, which changes nothing; from
-- any other symbol it moves away, and a field of 4 bytes holds no such distance once the image is moved at all
abbrev pub moved_place : ImageKind → Option Binding → ℕ
moved_place kind (Some (Here found)) = 0
moved_place kind bound = bias_of kind 0

abbrev pub own_subtracted : Linking → RelocationKind → ℕ
own_subtracted l kind = subtracted l 0 (row kind).value

-- what a field holds; zeros if it can't hold its value
unfoldable pub own_field : Linking → ℕ → ℕ → Relocation → Field
own_field l o s r =
    let bound = binding l o r in
    unwrap_or
    (stored_field r.kind (own_number l r.kind bound) r.addend (place l o s r.offset + moved_place l.kind bound)
    (own_subtracted l r.kind)) (Word32 0)

-- the field holds an address, which moves with the image
abbrev pub moves_in_form : FieldForm → Option Binding → Bool
moves_in_form Wrapped64 (Some (Here found)) = true
moves_in_form form bound = false

abbrev pub is_moving : RelocationKind → Option Binding → Bool
is_moving kind bound = moves_in_form (row kind).form bound

-- the marks of the field's bytes: 1 to 8 if it moves, else 0
abbrev pub marks_in_form : FieldForm → Option Binding → Field
marks_in_form Wrapped64 (Some (Here found)) = Word64 0x0807060504030201
marks_in_form Wrapped64 bound = Word64 0
marks_in_form form bound = Word32 0

abbrev pub marks_of : RelocationKind → Option Binding → Field
marks_of kind bound = marks_in_form (row kind).form bound

abbrev pub field_in : Table → Linking → ℕ → ℕ → Relocation → Field
field_in Bytes l o s r = own_field l o s r
field_in Marks l o s r = marks_of r.kind (binding l o r)

-- ** bytes

-- a byte of the section itself
abbrev pub own_byte : Table → List ℕ → ℕ → ℕ → ℕ
own_byte Bytes b s k = slice_index_or (section_bytes b s) k 0
own_byte Marks b s k = 0

-- the bytes of the section in the file
abbrev pub raw_bytes : Table → List ℕ → List ℕ
raw_bytes Bytes bytes = bytes
raw_bytes Marks bytes = []

abbrev pub own_bytes : Table → List ℕ → ℕ → List ℕ
own_bytes table b s = map (own_byte table b s) (range_with_len 0 (section_size b s))

abbrev pub byte_by_field : Table → Linking → ℕ → ℕ → ℕ → Option Relocation → ℕ
byte_by_field table l o s k None = own_byte table (object l o) s k
byte_by_field table l o s k (Some r) = slice_index_or (field_bytes (field_in table l o s r)) (k - r.offset) 0

-- byte k of section s of object o
unfoldable pub cell_in : Table → Linking → ℕ → ℕ → ℕ → ℕ
cell_in table l o s k =
    byte_by_field table l o s k (find (λ r. has_value r.kind && covers k r) (relocations (object l o) s))

-- ** fields, filled in one after another

abbrev pub filled_field : Table → Linking → ℕ → ℕ → Relocation → Field
filled_field table l o s r = if has_value r.kind then field_in table l o s r else Empty

abbrev pub with_field : Table → Linking → ℕ → ℕ → List ℕ → Relocation → List ℕ
with_field table l o s bytes r = patched (field_patch r.offset (filled_field table l o s r) ∷ []) bytes

abbrev pub with_fields : Table → Linking → ℕ → ℕ → List ℕ → List Relocation → List ℕ
with_fields table l o s bytes rs = fold (with_field table l o s) bytes rs
