use Rattle.std.proofs.Common.{arith}
use Rattle.sequence_match.proofs.Nearby.{up_more}
use Rattle.sequence_match.proofs.near.rise.Goals as goal

pub loop-index-preserved : goal.loop-index-preserved
loop-index-preserved c =
    up_more c.args.relocations.now c.loop-index.index c.at-in-loop-index.result c.at.result c.loop-index.invariant c.loop-index.auto.index c.at-in-loop-index.ensures c.at.ensures
    (omega (arith, c.if-at.false))
