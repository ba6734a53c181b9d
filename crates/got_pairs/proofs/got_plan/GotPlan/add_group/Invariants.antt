use Rattle.std.proofs.Common.{◌≡◌, drop}
use Rattle.got_pairs.specs.Needs.{of_group}
use Rattle.got_pairs.specs.Plans.{with_needs}
use Rattle.got_pairs.proofs.got_plan.GotPlan.add_group.Given as goal

-- the needs that are left give the rest of the entries
abbrev pub invariant-loop-need : goal.invariant-loop-need
invariant-loop-need l =
    (record l.self { entries = with_needs l.self.entries (of_group l.group (drop l.need-index l.needs)) }
    ≡ record l.initial.self { entries = with_needs l.initial.self.entries (of_group l.group l.needs) })
