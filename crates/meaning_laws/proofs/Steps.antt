-- Where no image has data, steps of the meaning, its sequences and its looks keep blocks alone.
use Rattle.std.proofs.Common.{Bool, true, false, ℕ, List, Option, Some, None, Result, Ok, Err, refl, sym, subst}
use Rattle.std.specs.Prelude.{if◌then◌else◌, option_map, unwrap_or}
use Rattle.address_map.specs.Map.{stack_start}
use Rattle.amd64_subset.specs.declared.instr.Decoded.{Decoded}
use Rattle.guest_arithmetic.specs.declared.cause.Cause.{Cause}
use Rattle.guest_operands.specs.declared.frame.Frame.{Frame}
use Rattle.guest_operands.specs.declared.space.Access.TheVariants.{Write}
use Rattle.guest_operands.specs.declared.state.State.{State}
use Rattle.guest_operands.specs.declared.stop.Stop.{Stop}
use Rattle.guest_machine.specs.Access.{Accesses}
use Rattle.guest_machine.specs.Ranges.{Range, grants, with_byte}
use Rattle.guest_machine.specs.Run.{Next, Goes, Ends, Looks, Stepping, next_of}
use Rattle.guest_machine.specs.Step.{act}
use Rattle.guest_machine.specs.State.{at_place, register_of}
use Rattle.guest_machine.specs.Use.{◌>>=◌, After, clean, left, plus}
use Rattle.job_meaning.specs.declared.values.Byte.{Byte}
use Rattle.job_meaning.specs.declared.values.Flag.{Flag}
use Rattle.job_meaning.specs.declared.values.Word.{Word}
use Rattle.job_meaning.specs.declared.values.Word.TheVariants.{Number}
use Rattle.job_meaning.specs.Marked.{used_number}
use Rattle.job_meaning.specs.Reading.{beside_linker}
use Rattle.loaded_modules.specs.declared.instance.Instance.{Instance}
use Rattle.module_table.specs.declared.events.Event.{Event}
use Rattle.sequence_forms.specs.declared.forms.Form.{Form}
use Rattle.sequence_forms.specs.declared.forms.Form.TheVariants.{Gd, Ld, IeMov, IeAdd, GdInd, LdInd, DescLea, DescCall}
use Rattle.thread_blocks.specs.Held.{Owner, looked, reached}
use Rattle.thread_blocks.specs.Instances.{numbered_instance}
use Rattle.thread_blocks.specs.Lines.{Line}
use Rattle.thread_blocks.specs.Spaces.{space_accesses, stack_range}
use Rattle.thread_blocks.specs.SpaceLaws.{IsImage, mapped}
use Rattle.thread_blocks.proofs.Image.{act_image}
use Rattle.thread_blocks.proofs.Alone.{KeepsBlocks, NextHolds}
use Rattle.thread_blocks.proofs.Blocks.{AreBlocks, HoldsBlocks, look_holds, reach_holds, written_are}
use Rattle.thread_blocks.proofs.BlocksBegun.{BegunHolds, begin_holds}
use Rattle.whole_meaning.specs.declared.marks.Mark.{Mark}
use Rattle.whole_meaning.specs.declared.sequences.Sequence.{Sequence}
use Rattle.whole_meaning.specs.Fields.{address_at, lent, lent_frame, marked_frame}
use Rattle.whole_meaning.specs.Meanings.{Meaning}
use Rattle.whole_meaning.specs.Reading.{acted, done, marked_step, plain_step}
use Rattle.whole_meaning.specs.Running.{meaning}
use Rattle.whole_meaning.specs.Sequences.{Stack, added, after_call, called_with, descriptor_called, descriptor_calls}
use Rattle.whole_meaning.specs.Sequences.{does, looks_first, own_base, sequence_result, stack_use, variable_address}
use Rattle.whole_meaning.specs.Sequences.{variable_distance, with_sum, without_flags}
use Rattle.whole_meaning.specs.Threads.{Meant, Memory, begin_meant, held_next, meant_accesses, meant_mark}
use Rattle.whole_meaning.specs.Threads.{meant_sequence, meant_shut, meant_show, meant_stack, meant_steps, meant_turns}
use Rattle.whole_meaning.specs.Threads.{ops, resume_meant, resumed_at, resumed_by, resumed_for, sequence_at}
use Rattle.whole_meaning.specs.Threads.{sequence_does, sequence_next}
use Rattle.meaning_laws.specs.Laws.{HasNoData}
use Rattle.guest_machine.specs.Machine.{with_answer}
use Rattle.thread_blocks.specs.RunTime.{resumed}

module _ (m : Meaning) (thread : ℕ) (os : List Owner) where
  -- ** what a step leaves

  -- a memory whose ranges are these blocks
  abbrev Fine : Memory → Type 0
  Fine memory = AreBlocks os memory.own

  abbrev pub ResultFine : Result (After Word Flag Memory) Stop → Type 0
  ResultFine (Ok at) = Fine at.memory
  ResultFine (Err stop) = Unit {0}

  abbrev pub NextFine : Next (After Word Flag Memory) → Type 0
  NextFine (Goes at) = Fine at.memory
  NextFine (Ends stop) = Unit {0}
  NextFine (Looks at) = Fine at.memory

  next_fine : (result : Result (After Word Flag Memory) Stop) → ResultFine result → NextFine (next_of result)
  next_fine (Ok at) fine = fine
  next_fine (Err stop) fine = tt

  then_fine : {A : Type 0} (r : Result A Stop) (f : A → Result (After Word Flag Memory) Stop)
      → ((a : A) → ResultFine (f a)) → ResultFine (r >>= f)
  then_fine (Ok a) f fine = fine a
  then_fine (Err stop) f fine = tt

  -- ** an instruction

  -- memories with proofs that they are such
  abbrev Proved : Type 0
  Proved = (memory : Memory) × Fine memory

  abbrev plain : Proved → Memory
  plain p = p.0

  either_put : (g : Bool) (memory : Memory) (stack : List Byte) (own : List (Range Byte)) → Fine memory
      → AreBlocks os own → Fine (if g then record memory { stack = stack } else record memory { own = own })
  either_put true memory stack own h k = h
  either_put false memory stack own h k = k

  put_fine : (memory : Memory) (place : ℕ) (byte : Byte) → Fine memory
      → Fine ((meant_accesses m thread).put memory place byte)
  unfolding meant_accesses space_accesses
  put_fine memory place byte fine =
      either_put (grants Write (stack_range (stack_start thread) memory.stack) place) memory _
      (with_byte memory.own place byte) fine (written_are os memory.own place byte fine)

  -- what such a memory lets a thread do
  abbrev proved_accesses : Accesses Proved Byte
  proved_accesses = record {
    byte = λ p place. (meant_accesses m thread).byte p.0 place;
    writes = λ p place. (meant_accesses m thread).writes p.0 place;
    put = λ p place byte. ((meant_accesses m thread).put p.0 place byte, put_fine p.0 place byte p.1);
    code = λ p place. (meant_accesses m thread).code p.0 place;
  }

  -- also with a word lent
  lent_image : (number : Option ℕ)
      → IsImage (lent ops proved_accesses number) (lent ops (meant_accesses m thread) number) plain
  lent_image None = record {
    byte = λ p place. refl;
    writes = λ p place. refl;
    put = λ p place byte. refl;
    code = λ p place. refl;
  }
  lent_image (Some number) = record {
    byte = λ p place. refl;
    writes = λ p place. refl;
    put = λ p place byte. refl;
    code = λ p place. refl;
  }

  mapped_fine : (result : Result (After Word Flag Proved) Stop) → ResultFine (mapped plain result)
  mapped_fine (Ok at) = at.memory.1
  mapped_fine (Err stop) = tt

  acted_fine : (mark : ℕ → Mark) (frame : Frame) (it : Decoded) (state : State Word Flag) (memory : Memory)
      → Fine memory → ResultFine (acted ops (meant_accesses m thread) mark frame it state memory)
  acted_fine mark frame it state memory fine =
      let number = address_at mark state.place it.disp in
      let lender = lent ops proved_accesses number in
      let frame = lent_frame number frame in
      let image = act_image ops lender (lent ops (meant_accesses m thread) number) plain (lent_image number) frame
      it.instr.operation state (memory, fine) in
      subst ResultFine (sym image) (mapped_fine (act ops lender frame it.instr.operation state (memory, fine)))

  done_fine : (mark : ℕ → Mark) (why : Option Cause) (it : Option Decoded) (state : State Word Flag) (memory : Memory)
      → Fine memory → ResultFine (done ops (meant_accesses m thread) mark why it state memory)
  done_fine mark (Some why) it state memory fine = tt
  done_fine mark None None state memory fine = tt
  done_fine mark None (Some it) state memory fine =
      acted_fine mark (marked_frame mark state.place it) it state memory fine

  plain_fine : (mark : ℕ → Mark) (state : State Word Flag) (memory : Memory) → Fine memory
      → ResultFine (plain_step ops (meant_accesses m thread) mark state memory)
  unfolding plain_step
  plain_fine mark state memory fine = done_fine mark _ _ state memory fine

  beside_fine : (reaches : Bool) (here : ℕ) (result : Result (After Word Flag Memory) Stop) → ResultFine result
      → ResultFine (beside_linker reaches here result)
  beside_fine true here result fine = tt
  beside_fine false here result fine = fine

  marked_fine : (mark : ℕ → Mark) (shut : ℕ → Bool) (state : State Word Flag) (memory : Memory) → Fine memory
      → ResultFine (marked_step ops (meant_accesses m thread) mark shut state memory)
  unfolding marked_step
  marked_fine mark shut state memory fine = beside_fine _ state.place _ (plain_fine mark state memory fine)

  -- ** a sequence

  module _ (s : Sequence) (start : ℕ) (state : State Word Flag) (memory : Memory) (fine : Fine memory) where
    abbrev stack : Stack Memory
    stack = meant_stack m thread

    called_fine : (word : Word) → ResultFine (called_with stack s thread start word state memory)
    called_fine word =
        then_fine (clean state.place (stack_use stack state memory))
        (λ below. Ok (left (at_place (with_answer (after_call state) word) s.next) (stack.forget memory below)))
        (λ below. fine)

    added_fine : ResultFine (added stack s thread start state memory)
    added_fine =
        let distance = variable_distance s start state.thread_pointer in
        then_fine (clean state.place (used_number (register_of state.registers s.register)))
        (λ number. Ok (left (at_place (with_sum stack s thread start (plus number distance) state) s.next) memory))
        (λ number. fine)

    descriptor_fine : ResultFine (descriptor_called stack s thread start state memory)
    descriptor_fine =
        let answer : Word = Number (variable_distance s start state.thread_pointer) in
        then_fine (clean state.place (descriptor_calls stack s thread start state memory))
        (λ uses. Ok (left (at_place (without_flags (with_answer state answer)) s.next) (stack.forget memory uses.1)))
        (λ uses. fine)

    form_fine : (form : Form) → ResultFine (does stack s thread start form state memory)
    form_fine Gd = called_fine (Number (variable_address s start))
    form_fine GdInd = called_fine (Number (variable_address s start))
    form_fine Ld = called_fine (own_base stack s thread start)
    form_fine LdInd = called_fine (own_base stack s thread start)
    form_fine IeMov = fine
    form_fine IeAdd = added_fine
    form_fine DescLea = fine
    form_fine DescCall = descriptor_fine

    result_fine : ResultFine (sequence_result (meant_stack m thread) s thread start state memory)
    unfolding sequence_result
    result_fine = form_fine s.form

  pub does_fine : (s : Sequence) (at : After Word Flag Memory) → Fine at.memory
      → ResultFine (sequence_does m thread s at)
  does_fine s at fine = result_fine s _ at.state at.memory fine

  looks_fine : (first : Bool) (at : After Word Flag Memory) (result : Result (After Word Flag Memory) Stop)
      → Fine at.memory → ResultFine result → NextFine (looks_first first at result)
  looks_fine false at result fine after = next_fine result after
  looks_fine true at (Ok next) fine after = fine
  looks_fine true at (Err stop) fine after = tt

  -- ** a step

  either_fine : (at : After Word Flag Memory) (s : Option Sequence) (next : Next (After Word Flag Memory))
      → Fine at.memory → NextFine next → NextFine (unwrap_or (option_map (sequence_next m thread at) s) next)
  either_fine at None next fine after = after
  either_fine at (Some s) next fine after = looks_fine _ at (sequence_does m thread s at) fine (does_fine s at fine)

  abbrev bare : Stepping (After Word Flag Memory)
  bare = meaning ops (meant_accesses m thread) (meant_mark m thread) (meant_shut m thread) (meant_sequence m thread)

  pub step_fine : (at : After Word Flag Memory) → Fine at.memory → NextFine (bare.step at)
  unfolding meaning
  step_fine at fine =
      either_fine at (sequence_at m thread at.memory.seen at.state.place) _ fine
      (next_fine _
      (marked_fine (meant_mark m thread at.memory) (meant_shut m thread at.memory) at.state at.memory fine))

-- ** threads

module _ (m : Meaning) (none : HasNoData m) (thread : ℕ) where
  held_holds : (h : Meant) (next : Next (After Word Flag Memory)) → NextFine m thread h.owners next
      → NextHolds (held_next m thread h next)
  held_holds h (Goes at) fine = fine
  held_holds h (Ends stop) fine = tt
  held_holds h (Looks at) fine = fine

  step_holds : (h : Meant) → HoldsBlocks h → NextHolds ((meant_steps m thread).step h)
  unfolding meant_steps
  step_holds h holds = held_holds h _ (step_fine m thread h.owners h.after holds)

  -- ** a look in the middle of a line

  resumed_holds : (h : Meant) (result : Result (After Word Flag Memory) Stop) → HoldsBlocks h
      → ResultFine m thread h.owners result → BegunHolds (resumed h result)
  resumed_holds h (Ok after) holds fine = fine
  resumed_holds h (Err stop) holds fine = holds

  by_holds : (h : Meant) (s : Sequence) (x : Option Instance) → HoldsBlocks h → BegunHolds (resumed_by m thread h s x)
  by_holds h s None holds = holds
  by_holds h s (Some x) holds =
      let now = reach_holds m.loads none thread x h in
      let h = reached m.loads thread x h in
      resumed_holds h (sequence_does m thread s h.after) now (does_fine m thread h.owners s h.after now)

  at_holds : (h : Meant) (s : Option Sequence) → HoldsBlocks h → BegunHolds (resumed_at m thread h s)
  at_holds h None holds = holds
  at_holds h (Some s) holds = by_holds h s (numbered_instance m.loads h.after.memory.seen s.target) holds

  for_holds : (h : Meant) (x : Option Instance) → HoldsBlocks h → BegunHolds (resumed_for m thread h x)
  for_holds h None holds = holds
  for_holds h (Some x) holds = at_holds h (sequence_at m thread h.after.memory.seen h.after.state.place) holds

  resume_holds : (seen : List Event) (h : Meant) → BegunHolds (resume_meant m thread seen h)
  unfolding resume_meant
  resume_holds seen h = for_holds (looked m.loads thread seen h) _ (look_holds m.loads none thread seen h)

  -- ** a line's first look

  first_holds : (line : Line) (seen : List Event) (h : Meant) → BegunHolds (begin_meant m thread line seen h)
  unfolding begin_meant
  first_holds line seen h = begin_holds ops m.loads none (meant_show m thread line seen) thread line seen h

  pub meant_keeps : (fuel : ℕ) → KeepsBlocks (meant_turns m thread fuel)
  unfolding meant_turns
  meant_keeps fuel = record {
    begin = λ line seen h. first_holds line seen h;
    resume = λ seen h. resume_holds seen h;
    step = λ h holds. step_holds h holds;
  }
