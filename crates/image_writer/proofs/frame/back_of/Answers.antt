use Rattle.std.proofs.Common.{◌-◌, ◌++◌, ◌≡◌, length, replicate, sym, ap, ◌∙◌, arith}
use Rattle.elf_records.specs.Fields.{splice}
use Rattle.image_writer.specs.Told.{next_page, told, tables_at}
use Rattle.image_writer.proofs.Finishing.{bounded}
use Rattle.image_writer.proofs.Framing.{put_behind}
use Rattle.image_writer.proofs.Layouts.{layout_facts}
use Rattle.image_writer.proofs.Making.{length-tables_at}
use Rattle.image_writer.proofs.frame.back_of.Goals as goal

pub size-requires : goal.size-requires
size-requires c =
    let b = bounded c.args.draft.now c.requires.loadable in
    let size = (layout_facts c.args.draft.now c.args.layout.now c.requires.layout).size_is in
    omega (arith, size, b.low, b.above, b.below)

pub overflow_add-gap : goal.overflow_add-gap
overflow_add-gap c =
    let b = bounded c.args.draft.now c.requires.loadable in
    let size = (layout_facts c.args.draft.now c.args.layout.now c.requires.layout).size_is in
    omega (arith, size, b.low, b.above, b.below, c.next_page-address.ensures, c.size.ensures)

pub put_tables-requires-clause-small : goal.put_tables-requires-clause-small
put_tables-requires-clause-small c =
    let b = bounded c.args.draft.now c.requires.loadable in
    let size = (layout_facts c.args.draft.now c.args.layout.now c.requires.layout).size_is in
    omega (arith, size, b.low, b.above, b.below)

pub returns-clause-back : goal.returns-clause-back
returns-clause-back c =
    let d = c.args.draft.now in
    let T = tables_at (next_page d) (told d) in
    let gap = c.next_page-address.result - c.places_end.result in
    let size : c.size.result ≡ length T =
    c.size.ensures ∙ (layout_facts d c.args.layout.now c.requires.layout).size_is
    ∙ sym (length-tables_at (next_page d) (told d)) in
    put_behind c.new-back.result.items c.grow.new.file.items c.as_mut_slice.result.now c.put_tables.new.out T gap
    c.size.result c.grow.new.file.len c.new-back.ensures.items size (sym c.grow.new.file.ok.0)
    (c.in_ok-grow.ensures {u = tt}).ok c.as_mut_slice.ensures.value
    (c.put_tables.ensures.bytes
    ∙ ap (λ n. splice gap (tables_at n (told d)) c.as_mut_slice.result.now) c.next_page-address.ensures)
    ∙ ap (λ n. replicate (n - c.places_end.result) 0 ++ T) c.next_page-address.ensures
    ∙ ap (λ n. replicate (next_page d - n) 0 ++ T) c.places_end.ensures
