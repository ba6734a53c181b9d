use Rattle.std.proofs.Common.{arith}
use Rattle.tls_layout.proofs.Listed.{ordinary_sections, sections_more, sections_all}
use Rattle.tls_layout.proofs.section_list.push_sections.Goals as goal

pub returns-in_err-push-clause-ordinary : goal.returns-in_err-push-clause-ordinary
returns-in_err-push-clause-ordinary c = ordinary_sections _ c.section_count-number-end.ensures.object

pub loop-number-preserved : goal.loop-number-preserved
loop-number-preserved c =
    rw c.in_ok-push.ensures.items (sections_more _ _ _ _ _ c.loop-number.invariant c.section_in.ensures)

pub returns-clause-pushed : goal.returns-clause-pushed
returns-clause-pushed c =
    sections_all _ _ _ c.loop-number.number
    (omega (arith, c.section_count-number-end.ensures.count)) c.loop-number.invariant

pub returns-clause-ordinary : goal.returns-clause-ordinary
returns-clause-ordinary c = ordinary_sections _ c.section_count-number-end.ensures.object
