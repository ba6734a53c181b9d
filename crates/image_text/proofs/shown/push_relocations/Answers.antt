use Rattle.image_text.specs.Shown.{relocation_line}
use Rattle.image_text.proofs.ShownLemmas.{one_more}
use Rattle.image_text.proofs.shown.push_relocations.Goals as goal

pub loop-number-preserved : goal.loop-number-preserved
loop-number-preserved c =
    one_more relocation_line c.args.image.now.relocations c.loop-number.number _ _ _ c.in_ok-push_relocation_at.ensures c.loop-number.invariant
