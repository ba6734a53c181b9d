use Rattle.transcript_text.proofs.TextLemmas.{lines_more, lines_end}
use Rattle.transcript_text.proofs.text.push_lines.Goals as goal

pub loop-index-preserved : goal.loop-index-preserved
loop-index-preserved c =
    lines_more c.args.thread c.loop-index.index c.args.lines.now c.index-lines-index.result _ _ _ c.loop-index-test.true c.index-lines-index.is c.in_ok-push_line.ensures c.loop-index.invariant

pub returns : goal.returns
returns c = lines_end c.args.thread _ c.loop-index.index c.args.lines.now _ _ c.loop-index-test.false c.loop-index.invariant
