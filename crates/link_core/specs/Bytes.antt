-- The bytes of an image's file, without its headers and its dynamic tables: the sections at their places, each with its
-- fields and its new sequences, the global offset table and the stub.
use Rattle.std.specs.Prelude.{◌+◌, ◌-◌, ◌==◌, ◌∷◌, ◌++◌, ℕ, negsuc, List, Option, Some, None, fold, length}
use Rattle.std.specs.Prelude.{unwrap_or, if◌then◌else◌}
use Rattle.std.specs.List.{filter, flat_map}
use Rattle.elf_records.specs.Fields.{bytes_of, splice}
use Rattle.elf_records.specs.declared.relocation.RelocationKind.TheVariants.{GotPcRel}
use Rattle.elf_object.specs.declared.relocation.Relocation.{Relocation}
use Rattle.elf_object.specs.Lent.{relocations}
use Rattle.got_pairs.specs.declared.need.Need.{Need}
use Rattle.got_pairs.specs.declared.need.Need.TheVariants.{RuntimeWord}
use Rattle.got_pairs.specs.Entries.{entry_of, words}
use Rattle.relax_sites.specs.declared.rows.NewField.{NewField}
use Rattle.relax_sites.specs.Rewriting.{rewritten}
use Rattle.relax_sites.specs.Rows.{new_field}
use Rattle.placed_sections.specs.Files.{memory_bytes, offset_of, sections_file}
use Rattle.sequence_forms.specs.declared.places.Site.{Site}
use Rattle.tls_relocs.specs.declared.fields.Field.{Field}
use Rattle.tls_relocs.specs.declared.fields.Field.TheVariants.{Empty}
use Rattle.tls_relocs.specs.Fields.{field_bytes}
use Rattle.tls_relocs.specs.Laid.{zeros}
use Rattle.tls_relocs.specs.Values.{stored_field}
use Rattle.link_needs.specs.Linking.{Linking, block_offset, choice, layout, object, sites_at}
use Rattle.link_needs.specs.Needs.{entries, got_size, got_start, has_stub, need_address, new_relocation, stub_start}
use Rattle.link_needs.specs.Values.{field, is_replaced}

-- ** the table and the stub

-- the words of an entry, as they are in the file
abbrev pub need_bytes : Linking → Need → List ℕ
need_bytes l need = flat_map (λ w. bytes_of 8 w.number) (words (entry_of l.kind (block_offset l) need))

unfoldable pub got_bytes : Linking → List ℕ
got_bytes l = flat_map (need_bytes l) (entries l)

-- jmp *word(%rip)
unfoldable pub stub_bytes : Linking → List ℕ
stub_bytes l =
    0xff ∷ 0x25
    ∷ field_bytes (unwrap_or (stored_field GotPcRel 0 (negsuc 3) (stub_start l + 2) (need_address l (Some RuntimeWord)))
    Empty)

-- the file with bytes added at an address, after zeros
abbrev pub with_part : Linking → ℕ → List ℕ → List ℕ → List ℕ
with_part l address bytes file = file ++ (zeros (offset_of (layout l) address - length file) ++ bytes)

abbrev pub with_got : Linking → List ℕ → List ℕ
with_got l file = if got_size l == 0 then file else with_part l (got_start l) (got_bytes l) file

abbrev pub with_stub : Linking → List ℕ → List ℕ
with_stub l file = if has_stub l then with_part l (stub_start l) (stub_bytes l) file else file

-- ** the fields of a section

-- the bytes with a value at an offset; a value that doesn't fit its field leaves them
abbrev pub with_value : ℕ → Option Field → List ℕ → List ℕ
with_value at value bytes = splice at (field_bytes (unwrap_or value Empty)) bytes

-- section t of object o with the field of a relocation written; one whose sequence is rewritten has none
abbrev pub with_field : Linking → ℕ → ℕ → List ℕ → Relocation → List ℕ
with_field l o t bytes r = if is_replaced l o r then bytes else with_value r.offset (field l o t r) bytes

-- ** its sequences

abbrev pub with_new_field : Linking → ℕ → Site → Option NewField → List ℕ → List ℕ
with_new_field l o site None bytes = bytes
with_new_field l o site (Some f) bytes =
    with_value (site.start + f.at) (field l o site.section (new_relocation site f)) bytes

-- the section with the sequence written that takes a site's place
unfoldable pub with_site : Linking → ℕ → List ℕ → Site → List ℕ
with_site l o bytes site =
    with_new_field l o site (new_field site.form (choice l o site)) (rewritten site (choice l o site) bytes)

-- the sites of section t
abbrev pub sites_in : List Site → ℕ → List Site
sites_in sites t = filter (λ (site : Site). site.section == t) sites

-- ** a section

-- these bytes of section t of object o with all its fields, and then its sequences
abbrev pub linked : Linking → ℕ → ℕ → List ℕ → List ℕ
linked l o t bytes =
    fold (with_site l o) (fold (with_field l o t) bytes (relocations (object l o) t)) (sites_in (sites_at l o) t)

unfoldable pub linked_section : Linking → ℕ → ℕ → List ℕ
linked_section l o t = linked l o t (memory_bytes (object l o) t)

-- ** the file

unfoldable pub file : Linking → List ℕ
file l = with_stub l (with_got l (sections_file (layout l) (linked_section l) l.objects))
