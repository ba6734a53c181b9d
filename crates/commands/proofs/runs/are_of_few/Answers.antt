use Rattle.std.proofs.Common.{◌<◌, ◌^◌, All, List, ℕ, length, subst}
use Rattle.std.proofs.lemmas.List.{take_all}
use Rattle.std.proofs.lemmas.List.Elements.{All-more}
use Rattle.job_link.specs.Given.{Given}
use Rattle.commands.specs.InOrder.{IsOfFew}
use Rattle.commands.proofs.runs.are_of_few.Goals as goal

pub loop-image-preserved : goal.loop-image-preserved
loop-image-preserved c =
    let few : IsOfFew c.image-item.result =
    subst (λ (objects : List (List ℕ)). length objects < 2 ^ 32) c.objects.ensures.objects c.if-objects.false in
    All-more IsOfFew c.args.images.now c.loop-image.image-index c.image-item.result c.loop-image-test.true c.loop-image.invariant
    (subst IsOfFew c.image-item.is few)

pub returns-clause-few : goal.returns-clause-few
returns-clause-few c = λ all.
    subst (λ (gs : List Given). All IsOfFew gs)
    (take_all c.loop-image.image-index c.args.images.now c.loop-image-test.false)
    c.loop-image.invariant
