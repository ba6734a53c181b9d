-- A thread of the meaning: its steps and its looks do with data what is told of them.
use Rattle.std.proofs.Common.{◌≡◌, ◌++◌, ℕ, zero, suc, Bool, true, false, List, Option, Some, None, Result, Ok, Err}
use Rattle.std.proofs.Common.{refl, sym, ap, subst}
use Rattle.std.specs.Prelude.{option_map, unwrap_or}
use Rattle.address_map.specs.Map.{stack_start}
use Rattle.amd64_subset.specs.declared.instr.Decoded.{Decoded}
use Rattle.guest_arithmetic.specs.declared.cause.Cause.{Cause}
use Rattle.guest_operands.specs.declared.state.State.{State}
use Rattle.guest_operands.specs.declared.stop.Stop.{Stop}
use Rattle.guest_machine.specs.Access.{Accesses, code_at, code_then, fetch_of, next_place}
use Rattle.guest_machine.specs.Run.{Next, Goes, Ends, Looks, next_of}
use Rattle.guest_machine.specs.Step.{act}
use Rattle.guest_machine.specs.State.{at_place, register_of}
use Rattle.guest_machine.specs.Use.{After, clean, left, plus}
use Rattle.job_meaning.specs.declared.values.Byte.{Byte}
use Rattle.job_meaning.specs.declared.values.Flag.{Flag}
use Rattle.job_meaning.specs.declared.values.Word.{Word}
use Rattle.job_meaning.specs.declared.values.Word.TheVariants.{Number}
use Rattle.job_meaning.specs.Marked.{used_number}
use Rattle.job_meaning.specs.Reading.{beside_linker}
use Rattle.loaded_modules.specs.declared.instance.Instance.{Instance}
use Rattle.module_table.specs.declared.events.Event.{Event}
use Rattle.sequence_forms.specs.declared.forms.Form.{Form}
use Rattle.sequence_forms.specs.declared.forms.Form.TheVariants.{Gd, Ld, IeMov, IeAdd, GdInd, LdInd, DescLea, DescCall}
use Rattle.thread_blocks.specs.Held.{Owned, Owner, looked, owned_by, reached}
use Rattle.thread_blocks.specs.Instances.{instances, numbered_instance}
use Rattle.thread_blocks.specs.Spaces.{put_byte, space_accesses}
use Rattle.thread_blocks.specs.SpaceLaws.{IsImage, mapped}
use Rattle.thread_blocks.proofs.Image.{act_image}
use Rattle.whole_meaning.specs.declared.marks.Mark.{Mark}
use Rattle.whole_meaning.specs.declared.sequences.Sequence.{Sequence}
use Rattle.whole_meaning.specs.Fields.{address_at, lent, lent_frame, marked_frame}
use Rattle.whole_meaning.specs.Meanings.{Meaning}
use Rattle.whole_meaning.specs.Reading.{done, marked_step, plain_step}
use Rattle.whole_meaning.specs.Running.{meaning}
use Rattle.whole_meaning.specs.Sequences.{Stack, added, after_call, called_with, descriptor_called, descriptor_calls}
use Rattle.whole_meaning.specs.Sequences.{does, looks_first, own_base, sequence_result, stack_use, variable_address}
use Rattle.whole_meaning.specs.Sequences.{variable_distance, with_sum, without_flags}
use Rattle.whole_meaning.specs.Threads.{Meant, Memory, begin_meant, held_next, meant_accesses, meant_mark, meant_shut}
use Rattle.whole_meaning.specs.Threads.{meant_show, meant_stack, meant_steps, meant_turns, ops, resume_meant}
use Rattle.whole_meaning.specs.Threads.{resumed_at, resumed_by, resumed_for, sequence_at, sequence_does, sequence_next}
use Rattle.shared_data.specs.Changes.{Change, Noted, noted_by, noting, unchanged}
use Rattle.shared_data.specs.Steps.{changes_at, meant_changes}
use Rattle.shared_data.proofs.Begins.{BegunHolds, begin_holds}
use Rattle.shared_data.proofs.Fits.{HasAll, put_fits}
use Rattle.shared_data.proofs.Held.{Holds, Numbered, Stands, look_holds, reach_holds}
use Rattle.shared_data.proofs.Last.{append_none}
use Rattle.shared_data.proofs.Left.{AreLeft}
use Rattle.shared_data.proofs.Noting.{Keeps, Proved, ResultKeeps, StoresKeep, plain, proved_accesses, then_keeps}
use Rattle.shared_data.proofs.Turns.{NextHolds, TellAll}
use Rattle.guest_machine.specs.Machine.{with_answer}
use Rattle.thread_blocks.specs.RunTime.{resumed}

abbrev pub At : Type 0
At = After Word Flag Memory

abbrev pub NotedAt : Type 0
NotedAt = After Word Flag (Noted Event Byte)

module _ (m : Meaning) (thread : ℕ) where
  abbrev acc : Accesses Memory Byte
  acc = meant_accesses m thread

  puts : (space : Memory) (place : ℕ) (byte : Byte)
      → acc.put space place byte ≡ put_byte (stack_start thread) space place byte
  unfolding meant_accesses space_accesses
  puts space place byte = refl

  abbrev noter : List Owner → Accesses (Noted Event Byte) Byte
  noter os = noting (stack_start thread) os acc

  code_noted : (os : List Owner) (size : ℕ) (noted : Noted Event Byte) (place : ℕ)
      → code_at (noter os) noted place size ≡ code_at acc noted.space place size
  code_noted os zero noted place = refl
  code_noted os (suc size) noted place =
      ap (code_then (acc.code noted.space place)) (code_noted os size noted (next_place place))

  fetch_noted : (os : List Owner) (noted : Noted Event Byte) (place : ℕ)
      → fetch_of (noter os) noted place ≡ fetch_of acc noted.space place
  unfolding fetch_of
  fetch_noted os noted place = code_noted os 15 noted place

  -- also with a word lent
  lent_space : (os : List Owner) (number : Option ℕ)
      → IsImage (lent ops (noter os) number) (lent ops acc number) (λ noted. noted.space)
  lent_space os None =
      record { byte = λ p place. refl; writes = λ p place. refl; put = λ p place byte. refl; code = λ p place. refl }
  lent_space os (Some number) =
      record { byte = λ p place. refl; writes = λ p place. refl; put = λ p place byte. refl; code = λ p place. refl }

  abbrev space_at : Result NotedAt Stop → Result At Stop
  space_at result = mapped (λ noted. noted.space) result

  -- ** a step that notes is the step

  done_space : (os : List Owner) (mark : ℕ → Mark) (why : Option Cause) (it : Option Decoded) (state : State Word Flag)
      (noted : Noted Event Byte)
      → done ops acc mark why it state noted.space ≡ space_at (done ops (noter os) mark why it state noted)
  done_space os mark (Some why) it state noted = refl
  done_space os mark None None state noted = refl
  done_space os mark None (Some it) state noted =
      let number = address_at mark state.place it.disp in
      act_image ops (lent ops (noter os) number) (lent ops acc number) (λ n. n.space) (lent_space os number)
      (lent_frame number (marked_frame mark state.place it)) it.instr.operation state noted

  pub plain_space : (os : List Owner) (mark : ℕ → Mark) (state : State Word Flag) (noted : Noted Event Byte)
      → plain_step ops acc mark state noted.space ≡ space_at (plain_step ops (noter os) mark state noted)
  unfolding plain_step
  plain_space os mark state noted =
      rw (fetch_noted os noted state.place) (done_space os mark _ _ state noted)

  -- ** at these events

  module _ (seen : List Event) where
    abbrev Here : List Event → List (Owned Byte) → Type 0
    Here = Stands m.loads thread seen

    stores : StoresKeep Here
    stores now os own place byte stands =
        (stands.0, put_fits m.loads thread (instances m.loads seen) place byte os own stands.1)

    -- ** and it keeps what it notes

    module _ (log : List (Change Byte)) (os : List Owner) where
      abbrev Fine : Type 0
      Fine = Proved (stack_start thread) os acc Here stores log puts

      abbrev bare : Fine → Noted Event Byte
      bare p = plain (stack_start thread) os acc Here stores log puts p

      abbrev lender : Accesses Fine Byte
      lender = proved_accesses (stack_start thread) os acc Here stores log puts

      lent_proved : (number : Option ℕ) → IsImage (lent ops lender number) (lent ops (noter os) number) bare
      lent_proved None =
          record {
            byte = λ p place. refl;
            writes = λ p place. refl;
            put = λ p place byte. refl;
            code = λ p place. refl;
          }
      lent_proved (Some number) =
          record {
            byte = λ p place. refl;
            writes = λ p place. refl;
            put = λ p place byte. refl;
            code = λ p place. refl;
          }

      abbrev ResultNoted : Result NotedAt Stop → Type 0
      ResultNoted (Ok at) = Keeps Here (log ++ at.memory.changes) os at.memory.space
      ResultNoted (Err stop) = Unit {0}

      mapped_noted : (result : Result (After Word Flag Fine) Stop) → ResultNoted (mapped bare result)
      mapped_noted (Ok at) = at.memory.1
      mapped_noted (Err stop) = tt

      done_noted : (mark : ℕ → Mark) (why : Option Cause) (it : Option Decoded) (state : State Word Flag) (p : Fine)
          → ResultNoted (done ops (noter os) mark why it state p.0)
      done_noted mark (Some why) it state p = tt
      done_noted mark None None state p = tt
      done_noted mark None (Some it) state p =
          let number = address_at mark state.place it.disp in
          let frame = lent_frame number (marked_frame mark state.place it) in
          subst ResultNoted (sym (act_image ops (lent ops lender number) (lent ops (noter os) number) bare
          (lent_proved number)
          frame it.instr.operation state p))
          (mapped_noted (act ops (lent ops lender number) frame it.instr.operation state p))

      plain_noted : (mark : ℕ → Mark) (state : State Word Flag) (p : Fine)
          → ResultNoted (plain_step ops (noter os) mark state p.0)
      unfolding plain_step
      plain_noted mark state p = done_noted mark _ _ state p

    -- ** results

    abbrev NextKeeps : List (Change Byte) → List Owner → Next At → Type 0
    NextKeeps log os (Goes at) = Keeps Here log os at.memory
    NextKeeps log os (Ends stop) = Unit {0}
    NextKeeps log os (Looks at) = Keeps Here log os at.memory

    next_keeps : (log : List (Change Byte)) (os : List Owner) (result : Result At Stop) → ResultKeeps Here log os result
        → NextKeeps log os (next_of result)
    next_keeps log os (Ok at) keeps = keeps
    next_keeps log os (Err stop) keeps = tt

    beside_keeps : (log : List (Change Byte)) (os : List Owner) (reaches : Bool) (here : ℕ) (result : Result At Stop)
        → ResultKeeps Here log os result → ResultKeeps Here log os (beside_linker reaches here result)
    beside_keeps log os true here result keeps = tt
    beside_keeps log os false here result keeps = keeps

    noted_keeps : (log : List (Change Byte)) (os : List Owner) (result : Result NotedAt Stop)
        → ResultNoted log os result
        → ResultKeeps Here (log ++ noted_by (next_of result)) os (space_at result)
    noted_keeps log os (Ok at) keeps = keeps
    noted_keeps log os (Err stop) keeps = tt

    -- an instruction
    marked_keeps : (log : List (Change Byte)) (os : List Owner) (mark : ℕ → Mark) (shut : ℕ → Bool) (at : At)
        → Keeps Here log os at.memory
        → ResultKeeps Here (log
        ++ noted_by (next_of (plain_step ops (noter os) mark at.state (unchanged at.memory)))) os
        (marked_step ops acc mark shut at.state at.memory)
    unfolding marked_step
    marked_keeps log os mark shut at keeps =
        let fine : Fine log os = (
          unchanged at.memory,
          subst (λ (cs : List (Change Byte)). Keeps Here cs os at.memory) (sym
              (append_none log)) keeps,
        ) in
        let noted = plain_step ops (noter os) mark at.state (unchanged at.memory) in
        beside_keeps (log ++ noted_by (next_of noted)) os _ at.state.place (plain_step ops acc mark at.state at.memory)
        (subst (ResultKeeps Here (log ++ noted_by (next_of noted)) os)
        (sym (plain_space os mark at.state (unchanged at.memory)))
        (noted_keeps log os noted (plain_noted log os mark at.state fine)))

    -- ** a sequence

    module _ (log : List (Change Byte)) (os : List Owner) (s : Sequence) (start : ℕ) (state : State Word Flag)
        (memory : Memory)
        (keeps : Keeps Here log os memory) where
      abbrev stack : Stack Memory
      stack = meant_stack m thread

      called_keeps : (word : Word) → ResultKeeps Here log os (called_with stack s thread start word state memory)
      called_keeps word =
          then_keeps Here log os (clean state.place (stack_use stack state memory))
          (λ below. Ok (left (at_place (with_answer (after_call state) word) s.next) (stack.forget memory below)))
          (λ below. keeps)

      added_keeps : ResultKeeps Here log os (added stack s thread start state memory)
      added_keeps =
          let distance = variable_distance s start state.thread_pointer in
          then_keeps Here log os (clean state.place (used_number (register_of state.registers s.register)))
          (λ number. Ok (left (at_place (with_sum stack s thread start (plus number distance) state) s.next) memory))
          (λ number. keeps)

      descriptor_keeps : ResultKeeps Here log os (descriptor_called stack s thread start state memory)
      descriptor_keeps =
          let answer : Word = Number (variable_distance s start state.thread_pointer) in
          then_keeps Here log os (clean state.place (descriptor_calls stack s thread start state memory))
          (λ uses. Ok (left (at_place (without_flags (with_answer state answer)) s.next) (stack.forget memory uses.1)))
          (λ uses. keeps)

      form_keeps : (form : Form) → ResultKeeps Here log os (does stack s thread start form state memory)
      form_keeps Gd = called_keeps (Number (variable_address s start))
      form_keeps GdInd = called_keeps (Number (variable_address s start))
      form_keeps Ld = called_keeps (own_base stack s thread start)
      form_keeps LdInd = called_keeps (own_base stack s thread start)
      form_keeps IeMov = keeps
      form_keeps IeAdd = added_keeps
      form_keeps DescLea = keeps
      form_keeps DescCall = descriptor_keeps

      sequence_keeps : ResultKeeps Here log os (sequence_result (meant_stack m thread) s thread start state memory)
      unfolding sequence_result
      sequence_keeps = form_keeps s.form

    does_keeps : (log : List (Change Byte)) (os : List Owner) (s : Sequence) (at : At) → Keeps Here log os at.memory
        → ResultKeeps Here log os (sequence_does m thread s at)
    does_keeps log os s at keeps = sequence_keeps log os s _ at.state at.memory keeps

    looks_keeps : (log : List (Change Byte)) (os : List Owner) (first : Bool) (at : At) (result : Result At Stop)
        → Keeps Here log os at.memory → ResultKeeps Here log os result → NextKeeps log os (looks_first first at result)
    looks_keeps log os false at result keeps after = next_keeps log os result after
    looks_keeps log os true at (Ok next) keeps after = keeps
    looks_keeps log os true at (Err stop) keeps after = tt

    -- ** a step

    either_keeps : (log : List (Change Byte)) (h : Meant) (s : Option Sequence) → Holds m.loads thread seen log h
        → NextKeeps (log ++ changes_at m thread s h) h.owners (unwrap_or
        (option_map (sequence_next m thread h.after) s)
        (next_of (marked_step ops acc (meant_mark m thread h.after.memory)
        (meant_shut m thread h.after.memory) h.after.state h.after.memory)))
    either_keeps log h None holds =
        next_keeps (log ++ changes_at m thread None h) h.owners _
        (marked_keeps log h.owners (meant_mark m thread h.after.memory)
        (meant_shut m thread h.after.memory) h.after holds)
    either_keeps log h (Some s) holds =
        subst (λ (cs : List (Change Byte)). NextKeeps cs h.owners (sequence_next m thread h.after s))
        (sym (append_none log))
        (looks_keeps log h.owners _ h.after (sequence_does m thread s h.after) holds
        (does_keeps log h.owners s h.after holds))

    held_holds : (log : List (Change Byte)) (h : Meant) (next : Next At) → NextKeeps log h.owners next
        → NextHolds m.loads thread seen log (held_next m thread h next)
    held_holds log h (Goes at) keeps = keeps
    held_holds log h (Ends stop) keeps = tt
    held_holds log h (Looks at) keeps = keeps

    step_holds : (log : List (Change Byte)) (h : Meant) → Holds m.loads thread seen log h
        → NextHolds m.loads thread seen (log ++ meant_changes m thread h) ((meant_steps m thread).step h)
    unfolding meant_steps meaning
    step_holds log h holds =
        held_holds (log ++ meant_changes m thread h) h _
        (either_keeps log h (sequence_at m thread h.after.memory.seen h.after.state.place) holds)

    -- ** looks

    resumed_holds : (log : List (Change Byte)) (h : Meant) (result : Result At Stop) → Holds m.loads thread seen log h
        → ResultKeeps Here log h.owners result → BegunHolds m.loads thread seen log (resumed h result)
    resumed_holds log h (Ok after) holds keeps = keeps
    resumed_holds log h (Err stop) holds keeps = holds

    by_holds : (log : List (Change Byte)) (h : Meant) (s : Sequence) (x : Option Instance) → Numbered m.loads seen
        → Holds m.loads thread seen log h → BegunHolds m.loads thread seen log (resumed_by m thread h s x)
    by_holds log h s None own holds = holds
    by_holds log h s (Some x) own holds =
        let now = reach_holds m.loads thread seen log x h own holds in
        let h = reached m.loads thread x h in
        resumed_holds log h (sequence_does m thread s h.after) now (does_keeps log h.owners s h.after now)

    at_holds : (log : List (Change Byte)) (h : Meant) (s : Option Sequence) → Numbered m.loads seen
        → Holds m.loads thread seen log h → BegunHolds m.loads thread seen log (resumed_at m thread h s)
    at_holds log h None own holds = holds
    at_holds log h (Some s) own holds =
        by_holds log h s (numbered_instance m.loads h.after.memory.seen s.target) own holds

    for_holds : (log : List (Change Byte)) (h : Meant) (x : Option Instance) → Numbered m.loads seen
        → Holds m.loads thread seen log h → BegunHolds m.loads thread seen log (resumed_for m thread h x)
    for_holds log h None own holds = holds
    for_holds log h (Some x) own holds =
        at_holds log h (sequence_at m thread h.after.memory.seen h.after.state.place) own holds

    resume_holds : (log : List (Change Byte)) (h : Meant) → Numbered m.loads seen → AreLeft log (owned_by h)
        → HasAll m.loads (instances m.loads seen) (owned_by h)
        → BegunHolds m.loads thread seen log (resume_meant m thread seen h)
    unfolding resume_meant
    resume_holds log h own kept all =
        for_holds log (looked m.loads thread seen h) _ own (look_holds m.loads thread log seen h own kept all)

  -- the law of a thread
  pub meant_tells : (fuel : ℕ) → TellAll m.loads thread (meant_turns m thread fuel) (meant_changes m thread)
  unfolding meant_turns begin_meant
  meant_tells fuel = record {
    step = λ seen log h holds. step_holds seen log h holds;
    begin = λ log line seen h own next follows kept all.
        begin_holds ops m.loads (meant_show m thread line seen) thread log line seen h own next follows kept all;
    resume = λ log seen h own kept all. resume_holds seen log h own kept all;
  }
