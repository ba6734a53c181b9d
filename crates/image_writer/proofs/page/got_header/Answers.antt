use Rattle.std.proofs.Common.{◌∷◌, [], sym, ap, ◌∙◌, arith}
use Rattle.std.proofs.lemmas.List.{get_or_default}
use Rattle.image_writer.specs.Outlined.{outlined, no_part}
use Rattle.image_writer.specs.Page.{relro_header, relro_headers}
use Rattle.image_writer.proofs.Places.{got_below, part_near}
use Rattle.image_writer.proofs.page.got_header.Goals as goal

pub offset_bounds-outline-got : goal.offset_bounds-outline-got
offset_bounds-outline-got c =
    let below = got_below (outlined c.args.outline.now) c.in_ok-got.got c.requires.loadable
    (c.in_ok-got.was {u = tt}) in
    let few = c.requires.loadable.few in
    omega arith

pub bounds-outline-got : goal.bounds-outline-got
bounds-outline-got c = got_below (outlined c.args.outline.now) c.in_ok-got.got c.requires.loadable
    (c.in_ok-got.was {u = tt})

pub relro_header-requires : goal.relro_header-requires
relro_header-requires c =
    part_near (outlined c.args.outline.now) c.in_ok-got.got _ c.requires.loadable
    (got_below (outlined c.args.outline.now) c.in_ok-got.got c.requires.loadable (c.in_ok-got.was {u = tt}))

pub returns : goal.returns
returns c =
    let o = outlined c.args.outline.now in
    let is = c.in_ok-got.was {u = tt} in
    let below = got_below o c.in_ok-got.got c.requires.loadable is in
    ap (λ s. s ∷ []) (c.relro_header.ensures
    ∙ ap (relro_header o.kind) (get_or_default o.parts c.in_ok-got.got _ no_part below))
    ∙ ap (relro_headers o) (sym is)
