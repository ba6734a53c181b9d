use Rattle.transcript_text.proofs.TextLemmas.{events_more, events_end}
use Rattle.transcript_text.proofs.text.push_events.Goals as goal

pub loop-index-preserved : goal.loop-index-preserved
loop-index-preserved c =
    events_more c.args.images.now c.loop-index.index c.args.events.now _ _ _ _ c.loop-index-test.true c.in_ok-push_event.ensures c.loop-index.invariant

pub returns : goal.returns
returns c = events_end c.args.images.now _ c.loop-index.index c.args.events.now _ _ c.loop-index-test.false c.loop-index.invariant
