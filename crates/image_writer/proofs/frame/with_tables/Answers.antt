use Rattle.std.proofs.Common.{[], ◌∷◌, ◌++◌, ap, ◌∙◌, arith}
use Rattle.image_writer.specs.Told.{tables_place}
use Rattle.image_writer.proofs.Finishing.{bounded, places_held}
use Rattle.image_writer.proofs.Layouts.{layout_facts}
use Rattle.image_writer.proofs.frame.with_tables.Goals as goal

pub next_page-requires : goal.next_page-requires
next_page-requires c =
    let b = bounded c.args.draft.now c.requires.loadable in
    omega (arith, b.low, b.above, b.below)

pub size-requires : goal.size-requires
size-requires c =
    let b = bounded c.args.draft.now c.requires.loadable in
    let size = (layout_facts c.args.draft.now c.args.layout.now c.requires.layout).size_is in
    omega (arith, size, b.low, b.above, b.below)

pub returns : goal.returns
returns c =
    (c.in_ok-push.ensures {u = tt}).items
    ∙ ap (λ ys. ys ++ (tables_place c.next_page.result c.size.result ∷ []))
    ((c.in_ok-extend_from_slice.ensures {u = tt}).items
    ∙ ap (λ ys. ys ++ c.args.draft.now.parts.now) (c.in_ok-all.ensures {u = tt}).items)
    ∙ places_held c.args.draft.now c.args.layout.now c.next_page.result c.size.result c.requires.layout
    c.next_page.ensures c.size.ensures
