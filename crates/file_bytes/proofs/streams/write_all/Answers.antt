use Rattle.std.proofs.Common.{arith, length-drop}
use Rattle.file_bytes.proofs.StreamLemmas.{Appends-more}
use Rattle.file_bytes.proofs.streams.write_all.Goals as goal

pub loop-written-preserved : goal.loop-written-preserved
loop-written-preserved g c =
    let written = c.loop-written.written in
    let bytes = c.args.bytes.now in
    let count = c.in_ok-count.count in (
      grind (arith, c.in_ok-count.ensures.bound, length-drop),
      Appends-more _ _ _ bytes written count c.loop-written.invariant.1 c.in_ok-count.ensures.bytes,
    )
