use Rattle.std.proofs.Common.{◌∙◌, sym}
use Rattle.std.proofs.lemmas.List.{take_rest}
use Rattle.meant_images.proofs.Painted.{inside_ones, own_ones, own_part}
use Rattle.meant_images.proofs.painting.paint_own_sites.Goals as goal

pub paint_sites-requires-clause-own : goal.paint_sites-requires-clause-own
paint_sites-requires-clause-own c =
    let split = rw take_rest at c.sites_below-count.ensures in
    rw take_rest (own_ones c.args.section _ _ c.args.sites.now c.sites_below-begin.ensures split)

pub paint_sites-requires-clause-inside : goal.paint_sites-requires-clause-inside
paint_sites-requires-clause-inside c =
    let split = rw take_rest at c.sites_below-count.ensures in
    rw take_rest (inside_ones c.args.section _ _ _ c.args.sites.now c.sites_below-begin.ensures split c.requires.inside)

pub returns : goal.returns
returns c = λ k h.
    let split = rw take_rest at c.sites_below-count.ensures in
    let painted = rw take_rest at (c.paint_sites.ensures k h) in
    painted ∙ sym (own_part c.args.first c.args.section k _ _ c.args.sites.now _ c.sites_below-begin.ensures split)
