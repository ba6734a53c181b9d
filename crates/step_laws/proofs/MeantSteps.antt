-- The laws for a thread of a job's meaning.
use Rattle.std.proofs.Common.{◌≡◌, ℕ, Bool, true, false, Option, Some, None, Result, Ok, Err, refl, sym, ap, subst, ◌∙◌}
use Rattle.std.specs.Prelude.{◌||◌, if◌then◌else◌, ok_or, option_map, unwrap_or}
use Rattle.std.specs.List.{list_any}
use Rattle.guest_operands.specs.declared.stop.Stop.{Stop}
use Rattle.guest_operands.specs.Access.{Accesses, Refused}
use Rattle.guest_operands.specs.Use.{After}
use Rattle.guest_machine.specs.Run.{Next, next_of}
use Rattle.job_meaning.specs.declared.values.Byte.{Byte}
use Rattle.job_meaning.specs.declared.values.Flag.{Flag}
use Rattle.job_meaning.specs.declared.values.Word.{Word}
use Rattle.thread_blocks.specs.Spaces.{space_accesses}
use Rattle.whole_meaning.specs.declared.sequences.Sequence.{Sequence}
use Rattle.whole_meaning.specs.Meanings.{Meaning}
use Rattle.whole_meaning.specs.Reading.{marked_step, reaches_linker}
use Rattle.whole_meaning.specs.Running.{meaning}
use Rattle.whole_meaning.specs.Threads.{Meant, Memory, held_next, meant_accesses, meant_mark, meant_shut, meant_steps}
use Rattle.whole_meaning.specs.Threads.{ops, sequence_at}
use Rattle.step_laws.specs.Laws.{StepsAreAsTold, TouchedBytesAreNeeded}
use Rattle.step_laws.specs.Steps.{HasNoCause, StartsNoSequence, data_touched, step_over, without}
use Rattle.step_laws.proofs.Needed.{Stays}
use Rattle.step_laws.proofs.NeededSteps.{OpenTo, step-refused}
use Rattle.step_laws.proofs.Places.{IsOpen, reached-open}

found-open : {B : Type 0} (o : Option B) → IsOpen (ok_or o Refused)
found-open None = tt
found-open (Some b) = tt

no-sequence : {S : Type 0} (o : Option Sequence) (f : Sequence → Next S) (next : Next S) → o ≡ None
    → unwrap_or (option_map f o) next ≡ next
no-sequence None f next e = refl
no-sequence (Some s) f next e = absurd cc

module _ (m : Meaning) (thread : ℕ) where
  -- a thread's memory closes no byte
  pub meant-open : (memory : Memory) → OpenTo (meant_accesses m thread) memory
  unfolding meant_accesses space_accesses
  meant-open memory = record {
    byte = λ place. found-open _;
    writes = λ place. reached-open (λ byte. tt {0}) _ (found-open _);
  }

  -- where no sequence begins
  abbrev pub marked_over : Accesses Memory Byte → Meant → Result (After Word Flag Memory) Stop
  marked_over acc h = marked_step ops acc (meant_mark m thread h.after.memory)
      (meant_shut m thread h.after.memory) h.after.state h.after.memory

  pub step-is : (acc : Accesses Memory Byte) (h : Meant) → StartsNoSequence m thread h
      → step_over m thread acc h ≡ held_next m thread h (next_of (marked_over acc h))
  unfolding meaning
  step-is acc h starts = ap (held_next m thread h) (no-sequence
      (sequence_at m thread h.after.memory.seen h.after.state.place) _ (next_of (marked_over acc h)) starts)

  pub stays-next : (h : Meant) (r : Result (After Word Flag Memory) Stop)
      → HasNoCause (held_next m thread h (next_of r)) → Stays r
  stays-next h (Ok after) c = tt
  stays-next h (Err stop) c = c

  either : (b c : Bool) → (if b then true else c) ≡ (b || c)
  either true c = refl
  either false c = refl

  pub is-asked : (h : Meant) (shut : ℕ → Bool)
      → reaches_linker ops (meant_accesses m thread) (meant_mark m thread h.after.memory) shut h.after.state
      h.after.memory
      ≡ (shut h.after.state.place || list_any shut (data_touched m thread h))
  unfolding reaches_linker
  is-asked h shut = either (shut h.after.state.place) (list_any shut (data_touched m thread h))

  pub own-step : (h : Meant) → step_over m thread (meant_accesses m thread) h ≡ (meant_steps m thread).step h
  unfolding meant_steps
  own-step h = refl

pub as_told : StepsAreAsTold
as_told m thread h = (own-step m thread h, is-asked m thread h)

pub needed : TouchedBytesAreNeeded
needed m thread h place starts clean touched =
    let acc = meant_accesses m thread in
    let here : HasNoCause (held_next m thread h (next_of (marked_over m thread acc h))) =
    subst (λ (n : Next Meant). HasNoCause n) (step-is m thread acc h starts)
    (subst (λ (n : Next Meant). HasNoCause n) (sym (own-step m thread h)) clean) in
    step-is m thread (without place acc) h starts
    ∙ ap (λ (r : Result (After Word Flag Memory) Stop). held_next m thread h (next_of r))
    (step-refused ops acc h.after.memory (meant-open m thread h.after.memory) place
    (meant_mark m thread h.after.memory) h.after.state
    (meant_shut m thread h.after.memory) (stays-next m thread h (marked_over m thread acc h) here) touched)
