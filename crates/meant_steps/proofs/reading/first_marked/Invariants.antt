use Rattle.std.proofs.Common.{◌≡◌, ℕ, ◌<◌, true}
use Rattle.guest_operands.specs.Use.{plus}
use Rattle.meant_steps.specs.Walks.{is_usual}
use Rattle.meant_steps.proofs.reading.first_marked.Given as goal

abbrev pub invariant-loop-k : goal.invariant-loop-k
invariant-loop-k g l = (j : ℕ) → j < l.k → is_usual (g.M.Marks.mark l.marks (plus l.place j)) ≡ true
