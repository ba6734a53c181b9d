-- What an image holds at each place, by its objects, their layout and its tables, without a word of how a linker writes
-- it.
use Rattle.std.specs.Prelude.{◌+◌, ◌-◌, ◌&&◌, ◌==◌, ℕ, Bool, not, List, Option, Some, None}
use Rattle.std.specs.Prelude.{nat_le, nat_lt, slice_index_or, unwrap_or}
use Rattle.std.specs.List.{find, list_any}
use Rattle.elf_records.specs.Fields.{splice}
use Rattle.elf_object.specs.declared.relocation.Relocation.{Relocation}
use Rattle.elf_object.specs.Lent.{relocations, section_bytes}
use Rattle.elf_object.specs.Relocations.{field_width}
use Rattle.relax_sites.specs.declared.rows.NewField.{NewField}
use Rattle.relax_sites.specs.Rows.{new_bytes, new_field}
use Rattle.sequence_forms.specs.declared.places.Site.{Site}
use Rattle.tls_relocs.specs.declared.fields.Field.TheVariants.{Empty}
use Rattle.tls_relocs.specs.Fields.{field_bytes}
use Rattle.link_needs.specs.Linking.{Linking, choice, object, sites_at}
use Rattle.link_needs.specs.Needs.{is_kept, new_relocation}
use Rattle.link_needs.specs.Values.{field, is_replaced}

-- ** a rewritten sequence

-- byte k of section t is in a site of object o that is rewritten
abbrev pub is_in_rewritten : Linking → ℕ → ℕ → ℕ → Site → Bool
is_in_rewritten l o t k site =
    (site.section == t) && (nat_le site.start k && nat_lt k (site.start + site.len)) && not (is_kept (choice l o site))

-- the row of the table of sequences that takes the site's place, with its field
abbrev pub row_with : Linking → ℕ → Site → Option NewField → List ℕ
row_with l o site None = new_bytes site.form (choice l o site) site.reg
row_with l o site (Some f) =
    splice f.at (field_bytes (unwrap_or (field l o site.section (new_relocation site f)) Empty))
    (new_bytes site.form (choice l o site) site.reg)

unfoldable pub rewritten_bytes : Linking → ℕ → Site → List ℕ
rewritten_bytes l o site = row_with l o site (new_field site.form (choice l o site))

-- ** a field

-- byte k of section t is in the field of a relocation that has one
abbrev pub is_in_field : Linking → ℕ → ℕ → Relocation → Bool
is_in_field l o k r = (nat_le r.offset k && nat_lt k (r.offset + field_width r.kind)) && not (is_replaced l o r)

-- ** a byte

abbrev pub field_byte : Linking → ℕ → ℕ → ℕ → Option Relocation → ℕ → ℕ
field_byte l o t k None own = own
field_byte l o t k (Some r) own = slice_index_or (field_bytes (unwrap_or (field l o t r) Empty)) (k - r.offset) 0

abbrev pub site_byte : Linking → ℕ → ℕ → Option Site → ℕ → ℕ
site_byte l o k None other = other
site_byte l o k (Some site) other = slice_index_or (rewritten_bytes l o site) (k - site.start) 0

-- byte k of section t of object o, once it is linked: a byte of the sequence that takes a rewritten site's place, else
-- of the field that covers it, else the section's own
unfoldable pub meant_byte : Linking → ℕ → ℕ → ℕ → ℕ
meant_byte l o t k =
    site_byte l o k (find (is_in_rewritten l o t k) (sites_at l o))
    (field_byte l o t k (find (is_in_field l o k) (relocations (object l o) t))
    (slice_index_or (section_bytes (object l o) t) k 0))

-- ** the same by place alone

-- a relocation's place is in a sequence that is rewritten
abbrev pub lies_in_rewritten : Linking → ℕ → ℕ → Relocation → Bool
lies_in_rewritten l o t r = nat_lt 0 (field_width r.kind) && list_any (is_in_rewritten l o t r.offset) (sites_at l o)

-- byte k is in the field of a relocation
abbrev pub is_of_field : ℕ → Relocation → Bool
is_of_field k r = nat_le r.offset k && nat_lt k (r.offset + field_width r.kind)

-- a byte of the sequence that takes a rewritten site's place, else of the field of any relocation, else the section's
-- own
unfoldable pub placed_byte : Linking → ℕ → ℕ → ℕ → ℕ
placed_byte l o t k =
    site_byte l o k (find (is_in_rewritten l o t k) (sites_at l o))
    (field_byte l o t k (find (is_of_field k) (relocations (object l o) t))
    (slice_index_or (section_bytes (object l o) t) k 0))
