-- Machines that never stop unclean.
use Rattle.std.specs.Prelude.{ℕ, Bool}
use Rattle.guest_operands.specs.declared.state.State.{State}
use Rattle.guest_operands.specs.declared.stop.Stop.{Stop}
use Rattle.guest_operands.specs.declared.stop.Stop.TheVariants.{Returned, Look, Address, Code, Unclean, Steps}
use Rattle.guest_arithmetic.specs.Plain.{plain_operations}
use Rattle.guest_operands.specs.Ranges.{AddressSpace}
use Rattle.guest_machine.specs.Run.{run}
use Rattle.guest_machine.specs.RunLaws.{machine_of, stop_of}
use Rattle.guest_operands.specs.Use.{left}

abbrev pub IsClean : Stop → Type 0
IsClean (Returned number) = Unit {0}
IsClean (Look place) = Unit {0}
IsClean (Address place) = Unit {0}
IsClean (Code place) = Unit {0}
IsClean (Unclean place cause) = ⊥
IsClean (Steps place) = Unit {0}

-- no run over plain numbers stops unclean, whatever memory it runs over and however many steps it may make
abbrev pub PlainIsClean : Type 0
PlainIsClean =
    (n : ℕ) (state : State ℕ Bool) (memory : AddressSpace ℕ)
    → IsClean (stop_of (run (machine_of plain_operations) n (left state memory)))
