-- Where no row holds, the step of the meaning is the machine's step over marked values.
use Rattle.std.proofs.Common.{◌≡◌, inl, inr, ℕ, Bool, true, false, List, Option, Some, None, refl, sym, subst}
use Rattle.std.specs.Prelude.{if◌then◌else◌}
use Rattle.std.specs.List.{list_any}
use Rattle.amd64_subset.specs.declared.instr.Decoded.{Decoded}
use Rattle.amd64_subset.specs.Decoding.{decoded}
use Rattle.guest_arithmetic.specs.declared.cause.Cause.{Cause}
use Rattle.guest_arithmetic.specs.declared.cause.Cause.TheVariants as cause
use Rattle.guest_operands.specs.declared.state.State.{State}
use Rattle.guest_operands.specs.Access.{Accesses}
use Rattle.guest_machine.specs.Touch.{touched}
use Rattle.job_meaning.specs.declared.values.Byte.{Byte}
use Rattle.job_meaning.specs.declared.values.Flag.{Flag}
use Rattle.job_meaning.specs.declared.values.Word.{Word}
use Rattle.whole_meaning.specs.declared.marks.Mark.{Mark}
use Rattle.whole_meaning.specs.Reading.{done, hindrance, marked_step, own_touches, plain_step, reaches_linker}
use Rattle.whole_meaning.specs.Running.{meaning}
use Rattle.whole_meaning.specs.Threads.{meant_accesses, meant_mark, meant_shut, meant_steps, ops}
use Rattle.cause_laws.specs.Instructions.{read_operand}
use Rattle.cause_laws.specs.Laws.{CleanStepsAreGeneric, IsGeneric}
use Rattle.cause_laws.specs.Rows.{RowIf, Stands, fetched, instruction}
use Rattle.cause_laws.specs.Steps.{places_of}
use Rattle.cause_laws.proofs.Covered.{supplied-field}
use Rattle.cause_laws.proofs.Generic.{generic-step, next-operand}
use Rattle.cause_laws.proofs.Reading.{reading}
use Rattle.cause_laws.proofs.Touches.{own-are}

module _ {M : Type 0} (acc : Accesses M Byte) (mark : ℕ → Mark) (shut : ℕ → Bool) (state : State Word Flag) (memory : M)
    (left : Bool) where
  abbrev bytes : List ℕ
  bytes = fetched acc state memory

  -- the data bytes that are said to be touched, where nothing stops the reading
  pub touched-are : hindrance ops mark state bytes ≡ None → (o : Option Decoded) → decoded bytes ≡ o
      → touched acc memory (own_touches ops mark state o) ≡ places_of acc mark state memory o
  unfolding touched
  touched-are free None read = refl
  touched-are free (Some it) read = own-are acc state memory mark it (λ number is.
      let h = next-operand (read_operand it.instr.operation) (supplied-field mark state bytes it free read number is) in
      (h.0, h.1.0))

  -- where no row holds, nothing stops the reading
  unhindered : ((why : Cause) → Stands acc mark shut state memory left why → ⊥) → hindrance ops mark state bytes ≡ None
  unhindered never = by_cause (hindrance ops mark state bytes) refl
    where
      by_cause : (r : Option Cause) → hindrance ops mark state bytes ≡ r → hindrance ops mark state bytes ≡ None
      by_cause None e = e
      by_cause (Some cause.Inside) e = absurd (never cause.Inside (reading mark state bytes (Some cause.Inside) e).0)
      by_cause (Some cause.Field) e = absurd (never cause.Field (reading mark state bytes (Some cause.Field) e).0)
      by_cause (Some cause.Linker) e = absurd (reading mark state bytes (Some cause.Linker) e)
      by_cause (Some cause.Undefined) e = absurd (reading mark state bytes (Some cause.Undefined) e)
      by_cause (Some cause.Flags) e = absurd (reading mark state bytes (Some cause.Flags) e)
      by_cause (Some cause.Base) e = absurd (reading mark state bytes (Some cause.Base) e)
      by_cause (Some cause.Descriptor) e = absurd (reading mark state bytes (Some cause.Descriptor) e)
      by_cause (Some cause.Answer) e = absurd (reading mark state bytes (Some cause.Answer) e)
      by_cause (Some cause.Steps) e = absurd (reading mark state bytes (Some cause.Steps) e)

  -- and nothing of the linker's is reached
  pub outside : hindrance ops mark state bytes ≡ None → (Stands acc mark shut state memory left cause.Linker → ⊥)
      → reaches_linker ops acc mark shut state memory ≡ false
  unfolding reaches_linker
  outside free never =
      by_place (shut state.place) refl (list_any shut (places_of acc mark state memory (decoded bytes))) refl
    where
      by_place : (a : Bool) → shut state.place ≡ a → (b : Bool)
          → list_any shut (places_of acc mark state memory (decoded bytes)) ≡ b
          → (if shut state.place then true else list_any shut
          (touched acc memory (own_touches ops mark state (decoded bytes)))) ≡ false
      by_place true e b f = absurd (never (inl e))
      by_place false e true f = absurd (never (inr f))
      by_place false e false f = rw (e, touched-are free (decoded bytes) refl) f

  pub clean-step : ((why : Cause) → Stands acc mark shut state memory left why → ⊥)
      → (marked_step ops acc mark shut state memory ≡ done ops acc mark None (decoded bytes) state memory)
      × IsGeneric acc mark state memory (done ops acc mark None (decoded bytes) state memory) (decoded bytes)
  unfolding marked_step plain_step
  clean-step never =
      let free = unhindered never in
      (rw (outside free (never cause.Linker), free) refl, generic-step acc mark state memory free (decoded bytes) refl)

-- the law
pub clean_steps : CleanStepsAreGeneric
unfolding meant_steps meaning
clean_steps m thread h none on never =
    let acc = meant_accesses m thread in
    let mark = meant_mark m thread h.after.memory in
    let shut = meant_shut m thread h.after.memory in
    let state = h.after.state in
    let memory = h.after.memory in
    let c = clean-step acc mark shut state memory true (λ why stands.
    never why (subst (λ (b : Bool). RowIf acc mark shut state memory true b why) (sym on) stands)) in (
      done ops acc mark None (instruction acc state memory) state memory,
      (rw (none, c.0) refl, c.1),
    )
