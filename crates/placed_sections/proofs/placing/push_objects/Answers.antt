use Rattle.std.proofs.Common.{◌∙◌, ◌+◌, ◌∷◌, ◌++◌, sym, ap, drop}
use Rattle.placed_sections.specs.Files.{placed_from}
use Rattle.placed_sections.proofs.Laid.{drop_here, objects_step}
use Rattle.placed_sections.proofs.placing.push_objects.Goals as goal

pub loop-number-preserved : goal.loop-number-preserved
loop-number-preserved c =
    let p = c.args.placement.now in
    let n = c.loop-number.number in
    let xs = c.args.objects.now in
    let b = c.index-objects-number.result in
    let rest = drop (n + 1) xs in
    let here = drop_here xs n b c.loop-number-test.true ∙ ap (λ x. x ∷ rest) (sym c.index-objects-number.is) in
    ap (λ l. l ++ placed_from (λ part. part) p c.args.class (n + 1) rest) c.in_ok-push_object.ensures
    ∙ objects_step (λ part. part) p c.args.class n b c.loop-number.parts.items rest
    ∙ ap (λ ys. c.loop-number.parts.items ++ placed_from (λ part. part) p c.args.class n ys) (sym here)
    ∙ c.loop-number.invariant
