use Rattle.std.proofs.Common.{◌≡◌, ◌+◌, ◌-◌}
use Rattle.guest_machine.specs.Run.{run}
use Rattle.guest_machine.specs.RunLaws.{machine_of}
use Rattle.guest_operands.specs.Use.{left}
use Rattle.guest_machine.proofs.run.run.Given as goal

-- what is left to run from here is what was to run at first, and no step was lost
abbrev pub invariant-loop-state : goal.invariant-loop-state
invariant-loop-state g l =
    let machine = machine_of g.V.Values.operations in
    let memory = g.S.Space.memory in
    record {
      same : run machine (l.limit - l.taken) (left l.state (memory l.space))
          ≡ run machine (l.limit - l.fn.taken) (left l.fn.state (memory l.fn.space));
      counted : l.taken + (l.limit - l.taken) ≡ l.fn.taken + (l.limit - l.fn.taken);
      rest : g.S.Space.rest l.space ≡ g.S.Space.rest l.fn.space;
    }

abbrev pub decreases-loop-state : goal.decreases-loop-state
decreases-loop-state g l = l.limit - l.taken
