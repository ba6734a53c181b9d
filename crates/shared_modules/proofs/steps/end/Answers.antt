-- The registry is home, and the seat leaves.
use Rattle.shared_modules.proofs.Turns.{home_ending}
use Rattle.shared_modules.proofs.steps.end.Goals as goal

pub leave-requires-clause-ends : goal.leave-requires-clause-ends
leave-requires-clause-ends c = let l = home_ending _ _ _ c.requires.ends c.slot_home.ensures.there in
    (_, l.there, l.ending)
