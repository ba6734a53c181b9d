-- Which steps are unclean, and why (whole_meaning, Reading; guest_machine, Step), with one word changed. Each makes
-- `causes_are_answered` (cause_laws) false.
use Rattle.std.specs.Prelude.{◌≡◌, ℕ, Bool, true, false, List, Option, Some, None, Result, Err, if◌then◌else◌}
use Rattle.std.specs.List.{list_any}
use Rattle.amd64_words.specs.declared.register.Register.{Register}
use Rattle.amd64_subset.specs.declared.instr.Arithmetic.{Arithmetic}
use Rattle.amd64_subset.specs.declared.instr.Arithmetic.TheVariants.{Xor}
use Rattle.amd64_subset.specs.declared.instr.Decoded.{Decoded}
use Rattle.amd64_subset.specs.declared.instr.Operation.{Operation}
use Rattle.amd64_subset.specs.declared.instr.Operation.TheVariants.{Compute}
use Rattle.amd64_subset.specs.declared.instr.Width.{Width}
use Rattle.amd64_subset.specs.declared.operand.Operand.{Operand}
use Rattle.amd64_subset.specs.declared.operand.Operand.TheVariants.{Register as InRegister}
use Rattle.amd64_subset.specs.declared.operand.Operands.TheVariants.{IntoRegister}
use Rattle.amd64_subset.specs.Decoding.{decoded}
use Rattle.guest_arithmetic.specs.declared.cause.Cause.{Cause}
use Rattle.guest_arithmetic.specs.Arithmetic.{compute_effect}
use Rattle.guest_operands.specs.declared.frame.Frame.{Frame}
use Rattle.guest_operands.specs.declared.slot.Slot.TheVariants.{Register as OfSlot}
use Rattle.guest_operands.specs.declared.state.State.{State}
use Rattle.guest_operands.specs.declared.stop.Stop.{Stop}
use Rattle.guest_operands.specs.declared.stop.Stop.TheVariants.{Code, Unclean}
use Rattle.guest_operands.specs.Access.{Accesses, fetch_of}
use Rattle.guest_operands.specs.Operand.{number_at, taken}
use Rattle.guest_operands.specs.State.{register_of}
use Rattle.guest_operands.specs.Use.{◌>>=◌, After}
use Rattle.guest_machine.specs.Run.{Ends, Next, Stepping, next_of}
use Rattle.guest_machine.specs.Step.{act, concluded, finished, is_cleared}
use Rattle.guest_machine.specs.Touch.{touched}
use Rattle.job_meaning.specs.declared.values.Byte.{Byte}
use Rattle.job_meaning.specs.declared.values.Flag.{Flag}
use Rattle.job_meaning.specs.declared.values.Word.{Word}
use Rattle.job_meaning.specs.Reading.{beside_linker}
use Rattle.whole_meaning.specs.Fields.{address_at, lent, lent_frame, marked_frame}
use Rattle.whole_meaning.specs.Meanings.{Meaning}
use Rattle.whole_meaning.specs.Reading.{hindrance, own_touches}
use Rattle.whole_meaning.specs.Running.{asked}
use Rattle.whole_meaning.specs.Threads.{Meant, Memory, held_next, meant_accesses, meant_mark, meant_sequence}
use Rattle.whole_meaning.specs.Threads.{meant_shut}
use Rattle.whole_meaning.specs.Threads.{meant_steps, ops}
use Rattle.step_laws.specs.Steps.{StartsNoSequence}
use Rattle.cause_laws.specs.Laws.{RowOf}
use Rattle.cause_laws.specs.Rows.{IsFirst, order}
use Rattle.cause_laws.specs.Steps.{next_with}

-- ** the statement, of any steps

pub record IsAnsweredBy (x : Stepping Meant) (m : Meaning) (thread : ℕ) (h : Meant) (left : Bool) : Type 0 where
  pub first : (why : Cause) (at : ℕ) → next_with x left h ≡ Ends (Unclean at why)
      → (at ≡ h.after.state.place) × IsFirst (RowOf m thread h left) order why
  pub answered : (why : Cause) → IsFirst (RowOf m thread h left) order why
      → next_with x left h ≡ Ends (Unclean h.after.state.place why)

abbrev pub CausesBy : (Meaning → ℕ → Stepping Meant) → Type 0
CausesBy steps = (m : Meaning) (thread : ℕ) (h : Meant) (left : Bool) → StartsNoSequence m thread h
    → IsAnsweredBy (steps m thread) m thread h left

-- ** steps

abbrev pub Marked : Type 0
Marked = State Word Flag

abbrev pub Left : Type 0
Left = Result (After Word Flag Memory) Stop

-- `act`, over which computations clear a register whatever it held
module _ (is_cleared : Arithmetic → Register → Operand → Bool) (acc : Accesses Memory Byte) where
  abbrev pub compute_in : Arithmetic → Width → Frame → Marked → Memory → Register → Operand → Left
  compute_in arithmetic width frame state memory to from =
      if is_cleared arithmetic to from
      then finished ops acc width (OfSlot to) (compute_effect arithmetic width 0 0) frame state memory
      else (do
        it ← taken ops acc width frame state memory from (number_at ops width (register_of state.registers to))
        concluded ops acc arithmetic width (OfSlot to) (compute_effect arithmetic width it.other it.number)
            frame state memory)

  abbrev pub act_by : Frame → Operation → Marked → Memory → Left
  act_by frame (Compute arithmetic width (IntoRegister to from)) state memory =
      compute_in arithmetic width frame state memory to from
  act_by frame operation state memory = act ops acc frame operation state memory

-- `meant_steps`, over that and whether the address of an instruction is asked for the linker's
module _ (is_cleared : Arithmetic → Register → Operand → Bool) (own_place : Bool) (m : Meaning) (thread : ℕ) where
  abbrev pub acted : Decoded → Marked → Memory → Left
  acted it state memory =
      let mark = meant_mark m thread memory in
      let number = address_at mark state.place it.disp in
      act_by is_cleared (lent ops (meant_accesses m thread) number)
      (lent_frame number (marked_frame mark state.place it)) it.instr.operation state memory

  abbrev pub done : Option Cause → Option Decoded → Marked → Memory → Left
  done (Some why) it state memory = Err (Unclean state.place why)
  done None None state memory = Err (Code state.place)
  done None (Some it) state memory = acted it state memory

  abbrev pub fetched : Marked → Memory → List ℕ
  fetched state memory = fetch_of (meant_accesses m thread) memory state.place

  abbrev pub reaches_linker : Marked → Memory → Bool
  reaches_linker state memory = if meant_shut m thread memory state.place then own_place else
      list_any (meant_shut m thread memory) (touched (meant_accesses m thread) memory
      (own_touches ops (meant_mark m thread memory) state (decoded (fetched state memory))))

  abbrev pub step_of : Marked → Memory → Left
  step_of state memory = beside_linker (reaches_linker state memory) state.place
      (done (hindrance ops (meant_mark m thread memory) state (fetched state memory)) (decoded (fetched state memory))
      state memory)

  abbrev pub next_unless : Option (Next (After Word Flag Memory)) → Meant → Next (After Word Flag Memory)
  next_unless None h = next_of (step_of h.after.state h.after.memory)
  next_unless (Some sequence) h = sequence

  abbrev pub next : Meant → Next (After Word Flag Memory)
  next h = next_unless (meant_sequence m thread h.after) h

  abbrev pub steps_by : Stepping Meant
  steps_by = record {
    over = (meant_steps m thread).over;
    step = λ h. held_next m thread h (next h);
    spent = λ h. asked h.after.state.place (next h);
  }

-- `is_cleared`: xor of a register with itself is a use of what it held
abbrev pub is_cleared_by_sub : Arithmetic → Register → Operand → Bool
is_cleared_by_sub Xor to (InRegister from) = false
is_cleared_by_sub arithmetic to from = is_cleared arithmetic to from

pub record CausesAreRefuted : Type 0 where
  pub xor_uses_its_register : CausesBy (steps_by is_cleared_by_sub true) → ⊥
  -- `reaches_linker`: `false` for `true`
  pub linkers_code_may_be_run : CausesBy (steps_by is_cleared false) → ⊥
