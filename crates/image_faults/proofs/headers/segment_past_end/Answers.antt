use Rattle.image_faults.proofs.headers.segment_past_end.Goals as goal

pub returns-then-has_segment_past_end : goal.returns-then-has_segment_past_end
returns-then-has_segment_past_end c =
    (c.has_segment_past_end.ensures.0 c.if-has_segment_past_end.true, c.loop-number.invariant)
