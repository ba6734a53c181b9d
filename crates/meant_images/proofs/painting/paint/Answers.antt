use Rattle.std.proofs.Common.{arith, length-set}
use Rattle.meant_images.proofs.Painted.{painted_more, painted_none}
use Rattle.meant_images.proofs.painting.paint.Goals as goal

pub loop-byte-init : goal.loop-byte-init
loop-byte-init c = λ k h. painted_none c.args.entry c.args.start k _

pub loop-byte-preserved : goal.loop-byte-preserved
loop-byte-preserved c =
    λ k h. painted_more c.args.entry c.args.start c.loop-byte.byte k c.loop-byte.cells c.args.cells.now
    (omega arith) (c.loop-byte.invariant k (simp length-set at h))
