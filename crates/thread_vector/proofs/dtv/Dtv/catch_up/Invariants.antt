-- What is left of the events leads on from what was taken, and the blocks are those that the events taken so far leave.
use Rattle.std.proofs.Common.{◌≡◌, ◌+◌, ◌<◌, ℕ, true, None, drop}
use Rattle.module_table.specs.Past.{after, is_legal}
use Rattle.thread_vector.specs.Vectors.{held, caught_up}
use Rattle.thread_vector.proofs.dtv.Dtv.catch_up.Given as goal

abbrev pub invariant-loop-event : goal.invariant-loop-event
invariant-loop-event l =
    (after l.self.past (drop l.event-index l.events) ≡ after l.fn.self.past l.events)
    × (is_legal l.self.past (drop l.event-index l.events) ≡ true)
    × (l.self.past.seen ≡ l.fn.self.past.seen + l.event-index)
    × (l.self.thread ≡ l.fn.self.thread)
    × (l.self.images ≡ l.fn.self.images)
    × ((i : ℕ) → l.self.past.made < i → held l.fn.self i ≡ None)
    × ((i : ℕ) → held l.self i ≡ caught_up l.fn.self l.self.past i)
