-- Event by event.
use Rattle.std.proofs.Common.{get_or, false, ap, sym, ◌∙◌, ◌≤◌, refl, arith}
use Rattle.module_table.specs.Past.{after_one}
use Rattle.thread_vector.specs.Vectors.{caught_up}
use Rattle.module_table.specs.Walks.{legal_next, after_next, seen-after_one}
use Rattle.thread_vector.proofs.Stepping.{caught_first, caught_more, made_grows, none_held}
use Rattle.thread_vector.proofs.dtv.Dtv.catch_up.Goals as goal

pub loop-event-init : goal.loop-event-init
loop-event-init c = (
  refl,
  c.requires.legal,
  omega arith,
  refl,
  refl,
  λ i h. none_held c.args.self.now i c.blocks_fit.ensures.left h,
  λ i. caught_first c.args.self.now i,
)

pub take-requires-clause-accepted : goal.take-requires-clause-accepted
take-requires-clause-accepted c =
    (legal_next c.loop-event.self.past c.args.events.now c.loop-event.event-index _
    (omega arith) c.loop-event.invariant.1).0

pub loop-event-preserved : goal.loop-event-preserved
loop-event-preserved c =
    let next = legal_next c.loop-event.self.past c.args.events.now c.loop-event.event-index _
    (omega arith) c.loop-event.invariant.1 in
    let event = get_or c.args.events.now c.loop-event.event-index
    (record { thread = 0; line = 0; opens = false; image = 0 }) in
    let grows : c.loop-event.self.past.made ≤ (after_one c.loop-event.self.past event).made =
    made_grows c.loop-event.self.images c.loop-event.self.past event c.take.ensures.left next.0 in (
      rw c.take.ensures.leaves.past
          (after_next c.loop-event.self.past c.args.events.now c.loop-event.event-index _ (omega arith)
          ∙ c.loop-event.invariant.0),
      rw c.take.ensures.leaves.past next.1,
      rw c.take.ensures.leaves.past
          (omega (arith, seen-after_one c.loop-event.self.past event, c.loop-event.invariant.2)),
      c.take.ensures.leaves.thread ∙ c.loop-event.invariant.3,
      c.take.ensures.leaves.images ∙ c.loop-event.invariant.4,
      rw c.take.ensures.leaves.past (λ i h. c.loop-event.invariant.5 i (omega arith)),
      caught_more c.args.self.now c.loop-event.self c.take.new.self event c.take.ensures.left next.0 c.loop-event.invariant.4 c.take.ensures.leaves.past c.loop-event.invariant.5 c.loop-event.invariant.6
          (λ i. c.take.ensures.blocks i ∙ sym (ap (λ p. caught_up c.loop-event.self p i) c.take.ensures.leaves.past)),
    )
