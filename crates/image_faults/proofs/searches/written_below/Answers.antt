use Rattle.std.proofs.Common.{◌+◌, ◌∙◌, sym, ap, arith}
use Rattle.image_faults.specs.Parts.{is_writable}
use Rattle.image_faults.proofs.Counts.{many_none, many_more, many_same, is_of, is_not_of}
use Rattle.image_faults.proofs.searches.written_below.Goals as goal
use Rattle.image_faults.proofs.searches.written_below.Goals.{then-segment-eq-READ_WRITE, else-segment-eq-READ_WRITE}

pub loop-number-init : goal.loop-number-init
loop-number-init c = record { counted = sym (many_none (is_writable c.args.headers.now.bytes.now)); few = omega arith }

pub loop-number-preserved : goal.loop-number-preserved
loop-number-preserved c =
    let p = is_writable c.args.headers.now.bytes.now in
    let n = c.loop-number.number in
    let flags = ap (λ s. s.flags) c.segment.ensures.segment in
    elim c.if-segment-eq-READ_WRITE.branch [
      | then-segment-eq-READ_WRITE w ↦ record {
        counted = w.count-is ∙ ap (λ x. x + 1) c.loop-number.invariant.counted
            ∙ sym (many_more p n (is_of _ _ _ flags w.if-segment-eq-READ_WRITE.true));
        few = omega (arith, w.count-is, c.loop-number.invariant.few);
      }
      | else-segment-eq-READ_WRITE w ↦ record {
        counted = w.count-is ∙ c.loop-number.invariant.counted
            ∙ sym (many_same p n (is_not_of _ _ _ flags w.if-segment-eq-READ_WRITE.false));
        few = omega (arith, w.count-is, c.loop-number.invariant.few);
      }
    ]
