use Rattle.job_check.specs.Histories.{infos_of}
use Rattle.job_check.proofs.Listed.{all_from, listed_all}
use Rattle.job_check.proofs.live.live_instances.Goals as goal

pub loop-image-init : goal.loop-image-init
loop-image-init c = rw c.new-live.ensures.items (all_from (infos_of c.args.images.now) c.args.table.now)

pub returns : goal.returns
returns c =
    listed_all c.args.images.now c.args.table.now c.loop-image.image c.loop-image.live.items c.requires c.loop-image.invariant
    c.loop-image-test.false
