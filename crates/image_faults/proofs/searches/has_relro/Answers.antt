use Rattle.std.proofs.Common.{◌∙◌, sym, ap}
use Rattle.image_faults.proofs.Counts.{is_relro, last_none, last_more, last_same, is_of, is_not_of}
use Rattle.image_faults.proofs.searches.has_relro.Goals as goal
use Rattle.image_faults.proofs.searches.has_relro.Goals.{then-segment-eq-PT_GNU_RELRO, else-segment-eq-PT_GNU_RELRO}

pub loop-number-init : goal.loop-number-init
loop-number-init c = sym (last_none (is_relro c.args.headers.now.bytes.now))

pub loop-number-preserved : goal.loop-number-preserved
loop-number-preserved c =
    let p = is_relro c.args.headers.now.bytes.now in
    let n = c.loop-number.number in
    let kind = ap (λ s. s.kind) c.segment.ensures.segment in
    elim c.if-segment-eq-PT_GNU_RELRO.branch [
      | then-segment-eq-PT_GNU_RELRO w ↦
          w.behind-is ∙ sym (last_more p n (is_of _ _ _ kind w.if-segment-eq-PT_GNU_RELRO.true))
      | else-segment-eq-PT_GNU_RELRO w ↦
          w.behind-is ∙ c.loop-number.invariant
          ∙ sym (last_same p n (is_not_of _ _ _ kind w.if-segment-eq-PT_GNU_RELRO.false))
    ]
