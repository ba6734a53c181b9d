use Rattle.std.proofs.Common.{◌∙◌, Global, Vec, get_or, map, sym, ap, arith}
use Rattle.relax_sites.specs.declared.choices.Choice.{Choice}
use Rattle.commands.proofs.ImageEndings.{are_lines, have_lines}
use Rattle.commands.proofs.Ready.{count}
use Rattle.commands.proofs.site_lines.image_lines.Goals as goal

pub bounds-images-place-2 : goal.bounds-images-place-2
bounds-images-place-2 c =
    omega (arith, count c.args.job.now c.args.images.now c.args.ready.items c.requires.linked, c.requires.place)

pub lines_of-requires : goal.lines_of-requires
lines_of-requires c =
    have_lines c.sites_have_symbols.ensures c.args.job.now c.args.images.now c.args.ready.items c.requires.linked c.args.place c.requires.place
    c.index-images-place-2.result c.index-images-place-2.is
    c.index-images-place.result
    (c.index-images-place.is ∙ ap (λ is. get_or is c.args.place c.index-images-place.result) c.images.ensures.value)
    c.swap_remove.result c.swap_remove.ensures.value c.as_slice-names.result.now
    (c.as_slice-names.ensures ∙ ap (λ i. i.objects) (sym c.index-images-place.is))
    _ (ap (map (λ (own : Vec Choice Global). own.items)) c.as_slice.ensures.value ∙ c.into_choices-choices.ensures)

pub returns : goal.returns
returns c =
    are_lines c.sites_have_symbols.ensures c.args.job.now c.args.images.now c.args.ready.items c.requires.linked c.args.place c.requires.place
    c.index-images-place-2.result c.index-images-place-2.is
    c.index-images-place.result
    (c.index-images-place.is ∙ ap (λ is. get_or is c.args.place c.index-images-place.result) c.images.ensures.value)
    c.swap_remove.result c.swap_remove.ensures.value c.as_slice-names.result.now
    (c.as_slice-names.ensures ∙ ap (λ i. i.objects) (sym c.index-images-place.is))
    _ (ap (map (λ (own : Vec Choice Global). own.items)) c.as_slice.ensures.value ∙ c.into_choices-choices.ensures)
    (λ lines. lines.items) c.lines_of.result c.lines_of.ensures
