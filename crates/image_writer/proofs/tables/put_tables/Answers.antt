use Rattle.std.proofs.Common.{arith}
use Rattle.image_writer.proofs.Layouts.{layout_facts, put_all}
use Rattle.image_writer.proofs.tables.put_tables.Goals as goal

pub put_array-requires-clause-room : goal.put_array-requires-clause-room
put_array-requires-clause-room c =
    let facts = layout_facts c.args.draft.now c.args.layout.now c.requires.layout in
    omega (arith, facts, c.requires.room)

pub overflow_add-hash : goal.overflow_add-hash
overflow_add-hash c =
    let facts = layout_facts c.args.draft.now c.args.layout.now c.requires.layout in
    omega (arith, facts, c.requires.room)

pub overflow_cast-total : goal.overflow_cast-total
overflow_cast-total c =
    let facts = layout_facts c.args.draft.now c.args.layout.now c.requires.layout in
    omega (arith, facts, c.requires.small)

pub put_hash-requires-clause-room : goal.put_hash-requires-clause-room
put_hash-requires-clause-room c =
    let facts = layout_facts c.args.draft.now c.args.layout.now c.requires.layout in
    omega (arith, facts, c.requires.room)

pub overflow_add-hash_end-2 : goal.overflow_add-hash_end-2
overflow_add-hash_end-2 c =
    let facts = layout_facts c.args.draft.now c.args.layout.now c.requires.layout in
    omega (arith, facts, c.requires.room)

pub overflow_add-symbols : goal.overflow_add-symbols
overflow_add-symbols c =
    let facts = layout_facts c.args.draft.now c.args.layout.now c.requires.layout in
    omega (arith, facts, c.requires.room)

pub overflow_sub-symbols : goal.overflow_sub-symbols
overflow_sub-symbols c =
    let facts = layout_facts c.args.draft.now c.args.layout.now c.requires.layout in
    omega (arith, facts)

pub put_zeros-requires : goal.put_zeros-requires
put_zeros-requires c =
    let facts = layout_facts c.args.draft.now c.args.layout.now c.requires.layout in
    omega (arith, facts, c.requires.room)

pub put_symbols-requires-clause-names : goal.put_symbols-requires-clause-names
put_symbols-requires-clause-names c =
    let facts = layout_facts c.args.draft.now c.args.layout.now c.requires.layout in
    omega (arith, facts.strings_are, c.requires.small)

pub put_symbols-requires-clause-room : goal.put_symbols-requires-clause-room
put_symbols-requires-clause-room c =
    let facts = layout_facts c.args.draft.now c.args.layout.now c.requires.layout in
    omega (arith, facts, c.requires.room)

pub overflow_add-at : goal.overflow_add-at
overflow_add-at c =
    let facts = layout_facts c.args.draft.now c.args.layout.now c.requires.layout in
    omega (arith, facts, c.requires.room)

pub put_relocations-requires : goal.put_relocations-requires
put_relocations-requires c =
    let facts = layout_facts c.args.draft.now c.args.layout.now c.requires.layout in
    omega (arith, facts, c.requires.room)

pub put_strings-requires : goal.put_strings-requires
put_strings-requires c =
    let facts = layout_facts c.args.draft.now c.args.layout.now c.requires.layout in
    omega (arith, facts.strings_are, c.requires.room)

pub returns-clause-bytes : goal.returns-clause-bytes
returns-clause-bytes c =
    put_all c.args.draft.now c.args.layout.now c.args.address c.args.at c.args.out.now c.put_array.new.out
    c.put_hash.new.out c.put_zeros.new.out c.put_symbols.new.out c.put_relocations.new.out c.put_strings.new.out
    c.requires.layout c.requires.room (omega arith) (omega arith) (omega arith) (omega arith) c.put_array.ensures
    c.put_hash.ensures c.put_zeros.ensures c.put_symbols.ensures.bytes c.put_relocations.ensures.bytes
    c.put_strings.ensures
