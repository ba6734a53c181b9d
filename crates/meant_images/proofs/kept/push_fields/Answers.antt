use Rattle.std.proofs.Common.{[], ◌∷◌, arith, length-append}
use Rattle.std.proofs.lemmas.Option.{slice_get-get_or}
use Rattle.meant_images.proofs.Grown.{entries_push, fields_more, grows_push, grows_twice}
use Rattle.meant_images.proofs.kept.push_fields.Goals as goal

pub loop-relocation-preserved : goal.loop-relocation-preserved
loop-relocation-preserved c =
    let old = c.loop-relocation.entries.items in
    let it = c.field_entry.result in
    let so_far = c.loop-relocation.invariant in
    rw c.in_ok-push.ensures.items (record {
      grows = grows_twice _ _ _ so_far.grows (grows_push old it);
      entries = entries_push old it so_far.entries c.field_entry.ensures.numbered;
      here = omega (arith, length-append old (it ∷ []), so_far.here);
      each = fields_more c.args.inputs.now c.args.number old _ _ _ it _
          (slice_get-get_or _ _ _ c.loop-relocation-test.true)
          c.field_entry.ensures.entry so_far.here so_far.each;
    })
