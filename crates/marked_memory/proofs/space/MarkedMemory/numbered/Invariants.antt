-- None so far has it.
use Rattle.std.proofs.Common.{◌≡◌, ◌==◌, drop}
use Rattle.std.specs.List.{find}
use Rattle.loaded_modules.specs.declared.instance.Instance.{Instance}
use Rattle.marked_memory.proofs.space.MarkedMemory.numbered.Given as goal

abbrev pub invariant-loop-instance : goal.invariant-loop-instance
invariant-loop-instance l =
    find (λ (x : Instance). x.number == l.number) l.self.live
    ≡ find (λ (x : Instance). x.number == l.number) (drop l.instance-index l.instance-items)
