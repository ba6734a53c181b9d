-- Runs of the meaning: a sequence is one step, and so is any other instruction.
use Rattle.std.specs.Prelude.{ℕ, ◌==◌, Bool, Option, Some, None, unwrap_or, if◌then◌else◌}
use Rattle.address_map.specs.Map.{return_place}
use Rattle.guest_arithmetic.specs.declared.cause.Cause.TheVariants as cause
use Rattle.guest_arithmetic.specs.Values.{Operations}
use Rattle.guest_operands.specs.declared.stop.Stop.{Stop}
use Rattle.guest_operands.specs.declared.stop.Stop.TheVariants.{Unclean}
use Rattle.guest_operands.specs.Access.{Accesses}
use Rattle.guest_operands.specs.Use.{After}
use Rattle.guest_machine.specs.Run.{Next, Ends, Stepping, next_of, returned}
use Rattle.whole_meaning.specs.declared.marks.Mark.{Mark}
use Rattle.whole_meaning.specs.Reading.{marked_step}

-- a step past the limit is asked for its cause, without its effect and without a look; if it has none, the cause is
-- the limit of steps
abbrev pub asked : {S : Type 0} → ℕ → Next S → Stop
asked place (Ends (Unclean at why)) = Unclean at why
asked place next = Unclean place cause.Steps

-- mark: the mark of each address, in a memory; shut: the addresses that are the linker's own; sequence: the step of
-- the sequence that begins where the thread is, if one does
module _ {W F B M : Type 0} (ops : Operations W F B) (acc : Accesses M B) (mark : M → ℕ → Mark)
    (shut : M → ℕ → Bool) (sequence : After W F M → Option (Next (After W F M))) where
  abbrev pub meant_step : After W F M → Next (After W F M)
  meant_step at = unwrap_or (sequence at)
      (next_of (marked_step ops acc (mark at.memory) (shut at.memory) at.state at.memory))

  unfoldable pub meaning : Stepping (After W F M)
  meaning = record {
    over = λ at. if at.state.place == return_place
        then Some (returned (ops.number_of at.state.registers.rax) at.state.place)
        else None;
    step = λ at. meant_step at;
    spent = λ at. asked at.state.place (meant_step at);
  }
