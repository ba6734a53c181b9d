use Rattle.std.proofs.Common.{◌∙◌, ap, sym}
use Rattle.link_needs.specs.Values.{number_beside}
use Rattle.link_needs.proofs.PlanLemmas.{other_default}
use Rattle.link_needs.proofs.ValueLemmas.{no_entry}
use Rattle.link_needs.proofs.plan.Plan.other_number.Goals as goal

pub returns-in_default-2 : goal.returns-in_default-2
returns-in_default-2 c =
    let l = c.args.self.now in
    let o = c.args.object in
    let r = c.args.relocation.now in
    no_entry l o r (sym c.reaches_entry.ensures ∙ c.if-reaches_entry.false)
    ∙ other_default l o r c.row.result.value c.in_default-2.not-SegmentOffset c.in_default-2.not-ThreadOffset
    ∙ ap (λ row. number_beside l o r row.value) c.row.ensures
