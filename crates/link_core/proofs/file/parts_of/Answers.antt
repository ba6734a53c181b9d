use Rattle.std.proofs.Common.{◌≡◌, ◌∙◌, ap, subst}
use Rattle.std.specs.List.{All}
use Rattle.placed_sections.specs.Files.{placed}
use Rattle.placed_sections.specs.Laws.{IsNear}
use Rattle.link_needs.specs.Linking.{Linking, layout}
use Rattle.link_core.proofs.Laying.{parts_are}
use Rattle.link_core.proofs.file.parts_of.Goals as goal

pub returns : goal.returns
returns c =
    let l = c.args.plan.now in
    let same = c.inputs.view_is ∙ c.plan.view_is in
    let are : c.in_ok-parts.parts.items ≡ placed (λ part. part) (layout l) l.objects =
    c.in_ok-parts.ensures.parts
    ∙ ap (λ p. placed (λ part. part) p c.inputs.inside.objects.now) (c.inputs.invariant.placed ∙ ap layout same)
    ∙ ap (λ (l' : Linking). placed (λ part. part) (layout l) l'.objects) same in
    record {
      parts =
          parts_are l c.is_given.ensures.given c.in_ok-parts.parts.items are
          (subst (λ (l' : Linking). All (IsNear l'.objects) c.in_ok-parts.parts.items) same c.in_ok-parts.ensures.near);
      placed = are;
    }
