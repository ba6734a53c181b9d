use Rattle.std.proofs.Common.{◌∙◌, ◌++◌, ap}
use Rattle.link_needs.specs.Linking.{layout}
use Rattle.link_core.specs.Images.{got_places, places, section_places, stub_places}
use Rattle.link_core.proofs.draft.draft_lists.Goals as goal

pub returns-clause-parts : goal.returns-clause-parts
unfolding places
returns-clause-parts c =
    let l = c.tables.inside.plan in
    let made = got_places l ++ stub_places l in
    c.in_ok-got.ensures.places
    ∙ ap (λ xs. xs ++ made)
    (c.in_ok-parts.ensures
    ∙ ap section_places (c.inputs.invariant.placed ∙ ap layout (c.inputs.view_is ∙ c.plan.view_is)))
    ∙ ap places c.tables.view_is
