-- None so far has it.
use Rattle.std.proofs.Common.{◌≡◌, ◌==◌, drop}
use Rattle.std.specs.List.{find}
use Rattle.loaded_modules.specs.declared.instance.Instance.{Instance}
use Rattle.thread_space.specs.Kept.{live_in}
use Rattle.thread_space.proofs.space.ThreadSpace.with_id.Given as goal

abbrev pub invariant-loop-instance : goal.invariant-loop-instance
invariant-loop-instance l =
    find (λ (x : Instance). x.id == l.id) (live_in l.self.vector.images l.self.vector.past)
    ≡ find (λ (x : Instance). x.id == l.id) (drop l.instance-index l.instance-items)
