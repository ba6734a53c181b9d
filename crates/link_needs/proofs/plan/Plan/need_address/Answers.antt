use Rattle.std.proofs.Common.{arith}
use Rattle.got_pairs.specs.Needs.{size_of}
use Rattle.link_needs.proofs.PlanLemmas.{entry_small}
use Rattle.link_needs.proofs.plan.Plan.need_address.Goals as goal

pub overflow_add-result : goal.overflow_add-result
overflow_add-result c =
    let plan = c.self.inside in
    let kept = c.self.invariant in
    omega (
      arith,
      entry_small plan.inputs plan.got plan.got_start c.in-Some-start.at (size_of c.in-Some.need)
          kept.given kept.limits kept.got_is kept.start_is c.in-Some-start.ensures.within,
    )
