use Rattle.meant_images.proofs.Grown.{all_more}
use Rattle.meant_images.proofs.kept.keep.Goals as goal

pub loop-number-preserved : goal.loop-number-preserved
loop-number-preserved c =
    let so_far = c.loop-number.invariant in
    rw c.in_ok-push-2.ensures.items (record {
      entries = c.in_ok-push_object.ensures.entries;
      keeps = all_more c.args.images.now c.args.inputs.now _ _ c.loop-number.objects.items c.in_ok-push_object.field-0 _
          c.in_ok-push_object.ensures.grows so_far.keeps c.in_ok-push_object.ensures.keeps;
    })
