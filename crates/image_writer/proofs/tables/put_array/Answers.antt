use Rattle.std.proofs.Common.{◌+◌, List, [], ◌∷◌, ◌++◌, length, refl, ap, ◌∙◌, arith}
use Rattle.std.specs.Prelude.{option_to_list}
use Rattle.std.specs.List.{flat_map}
use Rattle.elf_records.specs.Fields.{splice}
use Rattle.elf_records.specs.Records.{dynamic_bytes}
use Rattle.elf_records.specs.declared.dynamic.TheConstants.{DT_NULL}
use Rattle.elf_records.specs.declared.dynamic.DynamicEntry.{DynamicEntry}
use Rattle.image_writer.specs.declared.layout.Layout.{Layout}
use Rattle.image_writer.specs.Tables.{array_entry, flags_entries, has_relocations}
use Rattle.image_writer.specs.Told.{told, layout_of, place_entries, leading_entries}
use Rattle.image_writer.proofs.Layouts as layouts
use Rattle.image_writer.proofs.tables.put_array.Goals as goal

pub put_places-requires-clause-hash : goal.put_places-requires-clause-hash
put_places-requires-clause-hash c =
    let facts = layouts.layout_facts c.args.draft.now c.args.layout.now c.requires.layout in
    omega (arith, facts)

pub put_places-requires-clause-symbols : goal.put_places-requires-clause-symbols
put_places-requires-clause-symbols c =
    let facts = layouts.layout_facts c.args.draft.now c.args.layout.now c.requires.layout in
    omega (arith, facts)

pub put_places-requires-clause-room : goal.put_places-requires-clause-room
put_places-requires-clause-room c =
    let d = c.args.draft.now in
    let few = layouts.entries-fit d c.args.layout.now c.requires.layout c.args.address in
    omega (arith, few, c.requires.room)

pub overflow_add-address : goal.overflow_add-address
overflow_add-address c =
    let facts = layouts.layout_facts c.args.draft.now c.args.layout.now c.requires.layout in
    omega (arith, facts, c.requires.below)

pub put_relocation_entries-next-requires-clause-room : goal.put_relocation_entries-next-requires-clause-room
put_relocation_entries-next-requires-clause-room c =
    let d = c.args.draft.now in
    let few = layouts.entries-fit d c.args.layout.now c.requires.layout
    (c.args.address + c.args.layout.now.relocations_start) in
    omega (arith, few, c.requires.room)

pub put_if-next-requires : goal.put_if-next-requires
put_if-next-requires c =
    let d = c.args.draft.now in
    let few = layouts.entries-fit d c.args.layout.now c.requires.layout
    (c.args.address + c.args.layout.now.relocations_start) in
    omega (arith, few, c.put_relocation_entries-next.ensures.next, c.requires.room)

pub write_dynamic-requires : goal.write_dynamic-requires
write_dynamic-requires c =
    let d = c.args.draft.now in
    let few = layouts.entries-fit d c.args.layout.now c.requires.layout
    (c.args.address + c.args.layout.now.relocations_start) in
    let flags = ap length c.flags_entry.ensures in
    omega (arith, few, flags, c.put_relocation_entries-next.ensures.next, c.put_if-next.ensures.next, c.requires.room)

pub returns : goal.returns
unfolding layout_of
returns c =
    let d = c.args.draft.now in
    let l = c.args.layout.now in
    let at = c.args.at in
    let address = c.args.address in
    let b = has_relocations (told d) in
    let n = length d.relocations.now in
    let L : List DynamicEntry = leading_entries b (address + l.relocations_start) n in
    let F : List DynamicEntry = option_to_list c.flags_entry.result in
    let few = layouts.entries-fit d l c.requires.layout (address + l.relocations_start) in
    let flags = ap length c.flags_entry.ensures in
    let put = layouts.put_groups (place_entries l address) L F c.entry.result at (at + 80)
    c.put_relocation_entries-next.result c.put_if-next.result c.args.out.now c.put_places.new.out
    c.put_relocation_entries-next.new.out c.put_if-next.new.out c.write_dynamic.new.bytes refl refl
    c.put_relocation_entries-next.ensures.next c.put_if-next.ensures.next (omega (arith, c.requires.room))
    (omega (arith, few, c.requires.room))
    (omega (arith, few, c.put_relocation_entries-next.ensures.next, c.requires.room))
    c.put_places.ensures c.put_relocation_entries-next.ensures.bytes c.put_if-next.ensures.bytes
    c.write_dynamic.ensures.bytes in
    put
    ∙ ap (λ fs. splice at (flat_map dynamic_bytes
    (place_entries l address ++ (L ++ (fs ++ (c.entry.result ∷ []))))) c.args.out.now)
    c.flags_entry.ensures
    ∙ ap (λ e. splice at (flat_map dynamic_bytes
    (place_entries l address ++ (L ++ (flags_entries d.is_flagged d.kind ++ (e ∷ [])))))
    c.args.out.now) c.entry.ensures
    ∙ ap (λ (m : Layout). splice at (flat_map dynamic_bytes (place_entries m address
    ++ (leading_entries b (address + m.relocations_start) n
    ++ (flags_entries d.is_flagged d.kind ++ (array_entry DT_NULL 0 ∷ [])))))
    c.args.out.now) c.requires.layout
