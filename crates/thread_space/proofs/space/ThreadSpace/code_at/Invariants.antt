-- None so far has such a part.
use Rattle.std.proofs.Common.{◌≡◌, drop}
use Rattle.std.specs.Prelude.{is_some}
use Rattle.std.specs.List.{find}
use Rattle.thread_space.specs.Fetching.{code_number}
use Rattle.thread_space.specs.Kept.{live_in}
use Rattle.thread_space.proofs.space.ThreadSpace.code_at.Given as goal

abbrev pub invariant-loop-instance : goal.invariant-loop-instance
invariant-loop-instance l =
    find (λ x. is_some (code_number l.self.vector.images l.place x)) (live_in l.self.vector.images l.self.vector.past)
    ≡ find (λ x. is_some (code_number l.self.vector.images l.place x)) (drop l.instance-index l.instance-items)
