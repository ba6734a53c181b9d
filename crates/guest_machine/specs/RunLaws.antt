-- What a run leaves, as contracts say it.
use Rattle.std.specs.Prelude.{ℕ, ◌≡◌, ◌+◌, ◌-◌}
use Rattle.guest_operands.specs.declared.stop.Stop.{Stop}
use Rattle.guest_operands.specs.declared.stop.Stop.TheVariants.{Look}
use Rattle.guest_arithmetic.specs.Values.{Operations}
use Rattle.guest_operands.specs.Use.{After, left}
use Rattle.guest_operands.specs.Ranges.{AddressSpace}
use Rattle.guest_operands.specs.RangeLaws.{range_accesses, is_field_of}
use Rattle.guest_machine.specs.Machine.{Standing}
use Rattle.guest_machine.specs.Run.{Outcome, Ended, Waits, Stepping, run, machine}

abbrev pub stop_of : {W F M : Type 0} → Outcome (After W F M) → Stop
stop_of (Ended stop n at) = stop
stop_of (Waits n at) = Look at.state.place

abbrev pub steps_left : {S : Type 0} → Outcome S → ℕ
steps_left (Ended stop n at) = n
steps_left (Waits n at) = n

abbrev pub state_after : {S : Type 0} → Outcome S → S
state_after (Ended stop n at) = at
state_after (Waits n at) = at

-- the machine over a memory of ranges
abbrev pub machine_of : {W F B : Type 0} → Operations W F B → Stepping (After W F (AddressSpace B))
machine_of ops = machine ops (range_accesses ops) is_field_of

-- a run up to its limit: how it stopped, what it left, and how many steps it took
pub record Runs {W F B : Type 0} (ops : Operations W F B) (limit : ℕ) (result : Stop) (old : Standing W F)
    (memory : AddressSpace B) (new : Standing W F) (memory' : AddressSpace B) : Type 0 where
  pub stop : result ≡ stop_of (run (machine_of ops) (limit - old.taken) (left old.state memory))
  pub after : left new.state memory' ≡ state_after (run (machine_of ops) (limit - old.taken) (left old.state memory))
  pub steps : new.taken + steps_left (run (machine_of ops) (limit - old.taken) (left old.state memory))
      ≡ old.taken + (limit - old.taken)
