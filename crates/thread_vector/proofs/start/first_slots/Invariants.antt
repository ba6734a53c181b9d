-- The slots so far.
use Rattle.thread_vector.proofs.First.{AreSoFar}
use Rattle.thread_vector.proofs.start.first_slots.Given as goal

abbrev pub invariant-loop-image : goal.invariant-loop-image
invariant-loop-image l = AreSoFar l.modules l.slots.items l.image
