use Rattle.std.proofs.Common.{[], ◌∷◌, arith, length-append}
use Rattle.std.proofs.lemmas.Option.{slice_get-get_or}
use Rattle.meant_images.proofs.Grown.{entries_push, grows_push, grows_twice, sequences_more}
use Rattle.meant_images.proofs.kept.push_sites.Goals as goal

pub loop-site-preserved : goal.loop-site-preserved
loop-site-preserved c =
    let old = c.loop-site.entries.items in
    let it = c.site_entry.result in
    let so_far = c.loop-site.invariant in
    rw c.in_ok-push.ensures.items (record {
      grows = grows_twice _ _ _ so_far.grows (grows_push old it);
      entries = entries_push old it so_far.entries c.site_entry.ensures.numbered;
      here = omega (arith, length-append old (it ∷ []), so_far.here);
      each = sequences_more c.args.images.now c.args.inputs.now c.args.number old _ _ _ it _
          (slice_get-get_or _ _ _ c.loop-site-test.true)
          c.site_entry.ensures.entry so_far.here so_far.each;
    })
