-- What the turn of the runner needs, and what it leaves.
use Rattle.std.proofs.Common.{◌≡◌, ◌∙◌, ◌++◌, [], ◌∷◌, length, Some, None, sym, ap, arith}
use Rattle.thread_blocks.specs.Turns.{with_event}
use Rattle.racing_thread.proofs.TurnTaken.{answers_then, has_room, is_legal_then, takes_turn}
use Rattle.racing_thread.proofs.racing.take_turn.Goals.{in-Some+in_ok-push, in_default}
use Rattle.racing_thread.proofs.racing.take_turn.Goals as goal

pub turn-requires-clause-legal : goal.turn-requires-clause-legal
turn-requires-clause-legal g c =
    is_legal_then c.requires.level c.thread.ensures c.asks.ensures c.in_ok-answered.ensures.answers
    c.as_slice-known.ensures.value c.as_slice-2.ensures.value

pub turn-requires-clause-room : goal.turn-requires-clause-room
turn-requires-clause-room g c =
    let few = ap length c.as_slice.ensures.value in
    has_room c.requires.level c.thread.ensures c.asks.ensures c.in_ok-answered.ensures.answers
    c.as_slice-known.ensures.value c.as_slice-2.ensures.value (omega (arith, few, c.if-as_slice-ge-MOST_EVENTS.false))

pub turn-requires-clause-answer : goal.turn-requires-clause-answer
turn-requires-clause-answer g c =
    answers_then c.requires.level c.thread.ensures c.asks.ensures c.in_ok-answered.ensures.answers
    c.as_slice-known.ensures.value c.as_slice-2.ensures.value

pub returns-clause-takes : goal.returns-clause-takes
returns-clause-takes g c =
    let found = c.answer.new.events.items in
    let takes = takes_turn c.requires.level c.thread.ensures c.asks.ensures c.in_ok-answered.ensures.answers
    c.as_slice-known.ensures.value c.as_slice-2.ensures.value c.match-answered.events.items c.in_ok-runner.runner
    c.in_ok-runner.ensures in
    elim c.match-answered.branch [
      | in-Some+in_ok-push w ↦
          let which = w.in-Some.is in
          let own : c.in_ok-answered.answered.own ≡ Some w.in-Some.own = cc in
          let moved = w.events-is in
          let pushed = w.in_ok-push.ensures.items in
          let are : c.match-answered.events.items ≡ found ++ w.in-Some.own ∷ [] = cc in
          takes (are ∙ ap (with_event found) (sym own))
      | in_default w ↦
          let which = w.in_default.is in
          let own : c.in_ok-answered.answered.own ≡ None = cc in
          let moved = w.events-is in
          let are : c.match-answered.events.items ≡ found = cc in
          takes (are ∙ ap (with_event found) (sym own))
    ]
