use Rattle.object_faults.proofs.tables.first_past_end.Goals as goal

pub returns-then-has_part_past_end : goal.returns-then-has_part_past_end
returns-then-has_part_past_end c = (c.has_part_past_end.ensures.0 c.if-has_part_past_end.true, c.loop-section.invariant)
