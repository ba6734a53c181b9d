use Rattle.std.proofs.Common.{arith}
use Rattle.job_turns.specs.Standing.{ask_of}
use Rattle.job_turns.proofs.CutTurns.{cut_answer, cut_legal, cut_length, cut_room, cut_turned, seen_within}
use Rattle.job_turns.proofs.CutTurns.{seen_within_then}
use Rattle.job_turns.proofs.turning.take_turn.Goals as goal

pub since-known-requires : goal.since-known-requires
since-known-requires c =
    seen_within c.args.registry.now c.args.pieces.now c.args.runner.now c.requires.can c.seen-seen.result c.seen-seen.ensures.value

pub since-requires : goal.since-requires
since-requires c =
    seen_within_then c.args.registry.now c.args.pieces.now c.args.runner.now c.requires.can c.seen-seen.result
    c.seen-seen.ensures.value c.thread.result c.asks.result c.answer.new.registry c.in_ok-answer.ensures.adds

pub slice_bounds-events-end : goal.slice_bounds-events-end
slice_bounds-events-end c =
    cut_length c.args.registry.now c.args.pieces.now c.args.runner.now c.requires.can c.seen-seen.result
    c.seen-seen.ensures.value c.thread.result c.asks.result c.answer.new.registry c.in_ok-answer.ensures.adds
    c.since-known.result.now c.since.result.now c.since-known.ensures.value c.since.ensures.value

pub advance-requires-clause-legal : goal.advance-requires-clause-legal
advance-requires-clause-legal c =
    cut_legal c.args.registry.now c.args.pieces.now c.args.runner.now c.requires.can c.seen-seen.result
    c.seen-seen.ensures.value c.thread.result c.asks.result c.answer.new.registry c.in_ok-answer.ensures.adds
    c.since-known.result.now c.since.result.now c.since-known.ensures.value c.since.ensures.value c.len.ensures.legal

pub advance-requires-clause-room : goal.advance-requires-clause-room
advance-requires-clause-room c =
    let all = cut_room c.args.registry.now c.args.pieces.now c.args.runner.now c.requires.can c.seen-seen.result
    c.seen-seen.ensures.value c.thread.result c.asks.result c.answer.new.registry c.in_ok-answer.ensures.adds
    c.since-known.result.now c.since.result.now c.since-known.ensures.value c.since.ensures.value in
    omega (arith, all, c.len.ensures.value, c.if-len-ge-MOST_EVENTS.false)

pub advance-requires-clause-answer : goal.advance-requires-clause-answer
advance-requires-clause-answer c =
    cut_answer c.args.registry.now c.args.pieces.now c.args.runner.now c.requires.can c.seen-seen.result
    c.seen-seen.ensures.value c.thread.result c.asks.result c.answer.new.registry c.in_ok-answer.ensures.adds
    c.since-known.result.now c.since.result.now c.since-known.ensures.value c.since.ensures.value c.in_ok-answer.answer
    (ask_of c.args.runner.now) c.in_ok-answer.ensures.answer c.asks.ensures

pub returns : goal.returns
returns c =
    cut_turned c.args.registry.now c.args.pieces.now c.args.runner.now c.requires.can c.seen-seen.result
    c.seen-seen.ensures.value c.thread.result c.asks.result c.answer.new.registry c.in_ok-answer.ensures.adds
    c.since-known.result.now c.since.result.now c.since-known.ensures.value c.since.ensures.value _ _
    c.advance.result c.thread.ensures c.asks.ensures c.advance.ensures.taken c.advance.ensures.pieces
