-- How the meaning decodes and does an instruction, in code with sequences and with fields that only the linker knows.
use Rattle.std.specs.Prelude.{ℕ, zero, suc, ◌+◌, ◌-◌, ◌&&◌, Bool, true, List, length, take, nat_le, Option, Some, None}
use Rattle.std.specs.Prelude.{Result, Err, if◌then◌else◌}
use Rattle.std.specs.List.{list_any}
use Rattle.std.specs.Option.{option_or}
use Rattle.amd64_subset.specs.declared.instr.Decoded.{Decoded}
use Rattle.amd64_subset.specs.Beginning.{begins_of}
use Rattle.amd64_subset.specs.Decoding.{decoded}
use Rattle.guest_arithmetic.specs.declared.cause.Cause.{Cause}
use Rattle.guest_arithmetic.specs.declared.cause.Cause.TheVariants as cause
use Rattle.guest_arithmetic.specs.Values.{Operations}
use Rattle.guest_operands.specs.declared.frame.Frame.{Frame}
use Rattle.guest_operands.specs.declared.state.State.{State}
use Rattle.guest_operands.specs.declared.stop.Stop.{Stop}
use Rattle.guest_operands.specs.declared.stop.Stop.TheVariants.{Code, Unclean}
use Rattle.guest_operands.specs.Access.{Accesses, fetch_of}
use Rattle.guest_operands.specs.Use.{After}
use Rattle.guest_machine.specs.declared.touch.Touches.{Touches}
use Rattle.guest_machine.specs.Step.{act}
use Rattle.guest_machine.specs.Touch.{paired, touched, touches_of}
use Rattle.job_meaning.specs.Reading.{beside_linker, completed, place_at}
use Rattle.whole_meaning.specs.declared.marks.Mark.{Mark}
use Rattle.whole_meaning.specs.declared.marks.Mark.TheVariants.{Usual, Offset, Address, Inside}
use Rattle.whole_meaning.specs.Fields.{address_at, lent, lent_frame, marked_frame, takes_address, takes_offset}
use Rattle.whole_meaning.specs.Fields.{without_operand}

module _ {W F B : Type 0} (ops : Operations W F B) (mark : ℕ → Mark) (state : State W F) where
  -- ** reading

  -- why byte k of an instruction may not be read: it lies in a sequence, or in a field that the instruction may not
  -- cover
  abbrev pub hindrance_of : Option Decoded → ℕ → Mark → Option Cause
  hindrance_of it k Usual = None
  hindrance_of it k Inside = Some cause.Inside
  hindrance_of (Some it) k (Offset number byte) =
      if nat_le byte k && takes_offset ops mark state (k - byte) it then None else Some cause.Field
  hindrance_of (Some it) k (Address number addend byte) =
      if nat_le byte k && takes_address ops mark state addend (k - byte) it then None else Some cause.Field
  hindrance_of None k mark = Some cause.Field

  -- the same if the bytes before it are a proper prefix of a spelling; otherwise byte k is not read
  abbrev pub hindered : List ℕ → ℕ → Option Cause
  hindered bytes k =
      if begins_of (take k bytes) then hindrance_of (completed bytes) k (mark (place_at state.place k)) else None

  -- the first hindrance from byte k on, in this many more bytes
  abbrev pub first_hindrance : List ℕ → ℕ → ℕ → Option Cause
  first_hindrance bytes k zero = hindered bytes k
  first_hindrance bytes k (suc more) = option_or (hindered bytes k) (first_hindrance bytes (k + 1) more)

  -- a hindrance in the bytes, or right after the last of them
  unfoldable pub hindrance : List ℕ → Option Cause
  hindrance bytes = first_hindrance bytes 0 (length bytes)

  -- ** data

  -- the accesses of an instruction, except that to the operand which its address field stands for
  abbrev pub own_touches : Option Decoded → Touches
  own_touches None = paired None None
  own_touches (Some it) = without_operand (address_at mark state.place it.disp)
      (touches_of ops (marked_frame mark state.place it) state it.instr.operation)

module _ {W F B M : Type 0} (ops : Operations W F B) (acc : Accesses M B) (mark : ℕ → Mark) where
  -- ** doing

  -- an instruction that was decoded
  abbrev pub acted : Frame → Decoded → State W F → M → Result (After W F M) Stop
  acted frame it state memory = let number = address_at mark state.place it.disp in
      act ops (lent ops acc number) (lent_frame number frame) it.instr.operation state memory

  abbrev pub done : Option Cause → Option Decoded → State W F → M → Result (After W F M) Stop
  done (Some why) it state memory = Err (Unclean state.place why)
  done None None state memory = Err (Code state.place)
  done None (Some it) state memory = acted (marked_frame mark state.place it) it state memory

  -- one step at an address where no sequence begins
  unfoldable pub plain_step : State W F → M → Result (After W F M) Stop
  plain_step state memory = done (hindrance ops mark state (fetch_of acc memory state.place))
      (decoded (fetch_of acc memory state.place)) state memory

  -- shut: the addresses that are the linker's own
  module _ (shut : ℕ → Bool) where
    -- an instruction begins at such an address, or touches a data byte at one
    unfoldable pub reaches_linker : State W F → M → Bool
    reaches_linker state memory = if shut state.place then true else
        list_any shut (touched acc memory (own_touches ops mark state (decoded (fetch_of acc memory state.place))))

    -- one step of the meaning at an address where no sequence begins
    unfoldable pub marked_step : State W F → M → Result (After W F M) Stop
    marked_step state memory = beside_linker (reaches_linker state memory) state.place (plain_step state memory)
