use Rattle.transcript_text.proofs.TextLemmas.{threads_more, threads_end}
use Rattle.transcript_text.proofs.text.push_threads.Goals as goal

pub loop-index-preserved : goal.loop-index-preserved
loop-index-preserved c =
    threads_more (λ lines. lines.items) c.loop-index.index c.args.threads.now c.index-threads-index.result _ _ _ c.loop-index-test.true c.index-threads-index.is
    (rw c.as_slice.ensures.value at c.in_ok-push_lines.ensures) c.loop-index.invariant

pub returns : goal.returns
returns c = threads_end
    (λ lines. lines.items) _ c.loop-index.index c.args.threads.now _ _ c.loop-index-test.false c.loop-index.invariant
