use Rattle.std.proofs.Common.{[], ◌∷◌, arith, length-append}
use Rattle.meant_images.proofs.Grown.{grows_twice, keeps_more}
use Rattle.meant_images.proofs.kept.push_sections.Goals as goal

pub loop-section-preserved : goal.loop-section-preserved
loop-section-preserved c =
    let firsts = c.loop-section.firsts.items in
    let first = c.in_ok-first.first in
    let so_far = c.loop-section.invariant in
    rw c.in_ok-push.ensures.items (record {
      grows = grows_twice _ _ _ so_far.grows c.in_ok-first.ensures.grows;
      entries = c.in_ok-first.ensures.entries;
      here = omega (arith, length-append firsts (first ∷ []), so_far.here);
      fields = keeps_more c.args.inputs.now c.args.number _ _ firsts first _ c.in_ok-first.ensures.grows so_far.here so_far.fields
          c.in_ok-first.ensures.fields;
    })
