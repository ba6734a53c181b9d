-- The registry is home, its event is published, and the seat leaves.
use Rattle.std.proofs.Common.{ap, ◌∙◌, []}
use Rattle.shared_modules.specs.Views.{away, published}
use Rattle.shared_modules.specs.Plays.{Sat}
use Rattle.shared_modules.proofs.Turns.{home_adding, published_leaving}
use Rattle.shared_modules.proofs.steps.end_with.Goals as goal

pub slot_home-requires-clause-empty : goal.slot_home-requires-clause-empty
slot_home-requires-clause-empty c = c.requires.adds.1.empty

pub publish-requires-clause-adds : goal.publish-requires-clause-adds
publish-requires-clause-adds c = let r = home_adding _ _ _ _ c.requires.adds.1 c.slot_home.ensures.there in
    (_, _, r.there, r.adding)

pub leave-requires-clause-ends : goal.leave-requires-clause-ends
leave-requires-clause-ends c =
    let r = home_adding _ _ _ _ c.requires.adds.1 c.slot_home.ensures.there in
    let l = published_leaving _ _ _ _ r (c.publish.ensures.published _ r.there) in
    (_, l.there, l.ending)

pub returns-clause-left : goal.returns-clause-left
returns-clause-left c =
    let r = home_adding _ _ _ _ c.requires.adds.1 c.slot_home.ensures.there in
    let p = c.publish.ensures.published _ r.there in
    c.leave.ensures.left ∙ ap (λ (m : Sat). let x : Sat = (away m.0, []) in x) p
    ∙ ap (λ (m : Sat). let x : Sat = (away (published c.args.registry.events m.0), []) in
    x) c.slot_home.ensures.there
