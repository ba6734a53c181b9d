use Rattle.image_text.specs.Shown.{part_line}
use Rattle.image_text.proofs.ShownLemmas.{one_more}
use Rattle.image_text.proofs.shown.push_parts.Goals as goal

pub loop-number-preserved : goal.loop-number-preserved
loop-number-preserved c =
    one_more part_line c.args.image.now.parts c.loop-number.number _ _ _ c.in_ok-push_part_at.ensures c.loop-number.invariant
