-- A vector that has seen one event more is one.
use Rattle.std.proofs.Common.{ap, refl}
use Rattle.thread_vector.specs.Views.{vector_of}
use Rattle.thread_vector.proofs.Stepping.{slots_same, vector_after}
use Rattle.thread_vector.proofs.dtv.Dtv.see.Goals as goal

pub invariant_of-self : goal.invariant_of-self
invariant_of-self c =
    let v = vector_of c.self.inside in
    vector_after v (record v { past = c.accept.new.self }) c.args.event c.self.invariant
    (rw (ap (λ v. v.past) c.self.view_is) c.requires.accepted)
    (record { thread = refl; images = refl; past = c.accept.ensures }) (slots_same v.slots)
