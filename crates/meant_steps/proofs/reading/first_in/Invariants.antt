use Rattle.std.proofs.Common.{◌≡◌, ℕ, ◌-◌}
use Rattle.guest_operands.specs.Use.{plus}
use Rattle.whole_meaning.specs.Reading.{hindrance_of}
use Rattle.whole_meaning.specs.Threads.{ops}
use Rattle.meant_steps.specs.Walks.{first_from}
use Rattle.meant_steps.proofs.reading.first_in.Given as goal

abbrev pub invariant-loop-at : goal.invariant-loop-at
invariant-loop-at g l =
    let answer = λ (j : ℕ). hindrance_of ops (g.M.Marks.mark l.marks) l.state l.it j
    (g.M.Marks.mark l.marks (plus l.state.place j)) in
    first_from answer l.k (l.end - l.k) ≡ first_from answer l.at (l.end - l.at)
