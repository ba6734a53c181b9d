use Rattle.std.proofs.Common.{◌∙◌, sym, ap, arith}
use Rattle.image_faults.specs.Parts.{is_writable}
use Rattle.image_faults.proofs.Counts.{last_none, last_more, last_same, is_of, is_not_of}
use Rattle.image_faults.proofs.searches.behind_last_writable.Goals as goal
use Rattle.image_faults.proofs.searches.behind_last_writable.Goals.{then-segment-eq-READ_WRITE}
use Rattle.image_faults.proofs.searches.behind_last_writable.Goals.{else-segment-eq-READ_WRITE}

pub loop-number-init : goal.loop-number-init
loop-number-init c = record { found = sym (last_none (is_writable c.args.headers.now.bytes.now)); few = omega arith }

pub loop-number-preserved : goal.loop-number-preserved
loop-number-preserved c =
    let p = is_writable c.args.headers.now.bytes.now in
    let n = c.loop-number.number in
    let flags = ap (λ s. s.flags) c.segment.ensures.segment in
    elim c.if-segment-eq-READ_WRITE.branch [
      | then-segment-eq-READ_WRITE w ↦ record {
        found = w.behind-is ∙ sym (last_more p n (is_of _ _ _ flags w.if-segment-eq-READ_WRITE.true));
        few = omega (arith, w.behind-is);
      }
      | else-segment-eq-READ_WRITE w ↦ record {
        found = w.behind-is ∙ c.loop-number.invariant.found
            ∙ sym (last_same p n (is_not_of _ _ _ flags w.if-segment-eq-READ_WRITE.false));
        few = omega (arith, w.behind-is, c.loop-number.invariant.few);
      }
    ]
