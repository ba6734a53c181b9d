-- What the field of each relocation holds (psABI, "Relocation Types"): the numbers that go into the table of
-- relocations.
use Rattle.std.specs.Prelude.{◌&&◌, ℕ, Bool, true, false, Option, Some, if◌then◌else◌}
use Rattle.std.specs.List.{list_any}
use Rattle.elf_records.specs.declared.relocation.RelocationKind.{RelocationKind}
use Rattle.elf_records.specs.declared.relocation_row.FieldValue.{FieldValue}
use Rattle.elf_records.specs.declared.relocation_row.FieldValue.TheVariants.{SegmentOffset, ThreadOffset}
use Rattle.elf_records.specs.declared.relocation_row.Replaced.{Replaced}
use Rattle.elf_records.specs.declared.relocation_row.Replaced.TheVariants.{Never, Always, WhereOwn, WhereRuntime}
use Rattle.elf_records.specs.RelocationRows.{row, is_offset}
use Rattle.elf_object.specs.declared.relocation.Relocation.{Relocation}
use Rattle.link_faults.specs.Bindings.{is_here}
use Rattle.link_faults.specs.ImageKinds.{is_module}
use Rattle.sequence_forms.specs.declared.forms.Form.{Form}
use Rattle.sequence_forms.specs.declared.forms.Form.TheVariants.{Ld, LdInd}
use Rattle.sequence_forms.specs.declared.places.Site.{Site}
use Rattle.tls_relocs.specs.declared.fields.Field.{Field}
use Rattle.tls_relocs.specs.Values.{stored_field}
use Rattle.link_faults.specs.declared.binding.Binding.{Binding}
use Rattle.link_faults.specs.declared.binding.Binding.TheVariants.{Here, Runtime}
use Rattle.link_needs.specs.Linking.{Linking, address, binding, block_offset, offset, place}
use Rattle.link_needs.specs.Needs.{need_address, relocation_need, stub_start}

-- ** rewriting

-- a program that is linked with rewriting
abbrev pub is_rewriting : Linking → Bool
is_rewriting l = if is_module l.kind then false else l.relax

abbrev pub is_runtime : Option Binding → Bool
is_runtime (Some Runtime) = true
is_runtime bound = false

-- whether a relocation has no field once its sequence is rewritten: by whether its symbol is one of the image itself,
-- or the run time's function
abbrev pub goes_where : Bool → Bool → Replaced → Bool
goes_where own runtime Never = false
goes_where own runtime Always = true
goes_where own runtime WhereOwn = own
goes_where own runtime WhereRuntime = runtime

-- whether a relocation has no field once its sequence is rewritten, by its type and its binding
abbrev pub goes : Option Binding → RelocationKind → Bool
goes bound kind = goes_where (is_here bound) (is_runtime bound) (row kind).replaced

-- whether a relocation has no field because its sequence is rewritten
unfoldable pub is_replaced : Linking → ℕ → Relocation → Bool
is_replaced l o r = is_rewriting l && goes (binding l o r) r.kind

-- ** the numbers

abbrev pub is_local : Form → Bool
is_local Ld = true
is_local LdInd = true
is_local form = false

-- whether local dynamic code is rewritten: it then finds the thread pointer instead of the block's start, and offsets
-- count from there
unfoldable pub counts_from_thread_pointer : Linking → Bool
counts_from_thread_pointer l =
    is_rewriting l && list_any (λ own. list_any (λ (site : Site). is_local site.form) own) l.sites

-- S, the symbol's address, or O, its offset in the TLS segment
abbrev pub own_number : Linking → RelocationKind → Option Binding → ℕ
own_number l kind (Some (Here found)) = if is_offset kind then offset l found else address l found
own_number l kind (Some Runtime) = stub_start l
own_number l kind bound = 0

-- G, the address of the entry in the GOT, or what is subtracted from an offset
abbrev pub number_beside : Linking → ℕ → Relocation → FieldValue → ℕ
number_beside l o r SegmentOffset = if counts_from_thread_pointer l then block_offset l else 0
number_beside l o r ThreadOffset = block_offset l
number_beside l o r value = need_address l (relocation_need l o r)

abbrev pub other_number : Linking → ℕ → Relocation → RelocationKind → ℕ
other_number l o r kind = number_beside l o r (row kind).value

-- what the field of a relocation of section t of object o holds; None if it can't hold its value
unfoldable pub field : Linking → ℕ → ℕ → Relocation → Option Field
field l o t r =
    stored_field r.kind (own_number l r.kind (binding l o r)) r.addend (place l o t r.offset)
    (other_number l o r r.kind)
