-- The meaning's threads have what the map says, after any turns at rising points of a history.
use Rattle.std.proofs.Common.{◌≡◌, ℕ, Bool, true, false, List, Option, Some, None, Result, Ok, Err, refl, sym, subst}
use Rattle.std.proofs.Common.{◌==◌}
use Rattle.std.specs.Prelude.{option_map, unwrap_or}
use Rattle.address_map.specs.Map.{stack_start}
use Rattle.amd64_subset.specs.declared.instr.Decoded.{Decoded}
use Rattle.guest_arithmetic.specs.declared.cause.Cause.{Cause}
use Rattle.guest_operands.specs.declared.state.State.{State}
use Rattle.guest_operands.specs.declared.stop.Stop.{Stop}
use Rattle.guest_machine.specs.Access.{Accesses}
use Rattle.guest_machine.specs.Run.{Next, Goes, Ends, Looks, next_of}
use Rattle.guest_machine.specs.Step.{act}
use Rattle.guest_machine.specs.State.{at_place, register_of}
use Rattle.guest_machine.specs.Use.{◌>>=◌, After, clean, left, plus}
use Rattle.job_meaning.specs.declared.values.Byte.{Byte}
use Rattle.job_meaning.specs.declared.values.Flag.{Flag}
use Rattle.job_meaning.specs.declared.values.Word.{Word}
use Rattle.job_meaning.specs.declared.values.Word.TheVariants.{Number}
use Rattle.job_meaning.specs.Marked.{used_number}
use Rattle.job_meaning.specs.Reading.{beside_linker}
use Rattle.loaded_modules.specs.declared.instance.Instance.{Instance}
use Rattle.module_table.specs.declared.events.Event.{Event}
use Rattle.sequence_forms.specs.declared.forms.Form.{Form}
use Rattle.sequence_forms.specs.declared.forms.Form.TheVariants.{Gd, Ld, IeMov, IeAdd, GdInd, LdInd, DescLea, DescCall}
use Rattle.thread_blocks.specs.Held.{Owner, looked, reached}
use Rattle.thread_blocks.specs.Spaces.{put_byte, space_accesses}
use Rattle.thread_blocks.specs.SpaceLaws.{IsImage, mapped}
use Rattle.thread_blocks.proofs.Image.{act_image}
use Rattle.whole_meaning.specs.declared.marks.Mark.{Mark}
use Rattle.whole_meaning.specs.declared.sequences.Sequence.{Sequence}
use Rattle.whole_meaning.specs.Fields.{address_at, lent, lent_frame, marked_frame}
use Rattle.whole_meaning.specs.Meanings.{Meaning}
use Rattle.whole_meaning.specs.Reading.{done, marked_step, plain_step}
use Rattle.whole_meaning.specs.Running.{meaning}
use Rattle.whole_meaning.specs.Sequences.{Stack, added, after_call, called_with, descriptor_called, descriptor_calls}
use Rattle.whole_meaning.specs.Sequences.{does, looks_first, own_base, sequence_result, stack_use, variable_address}
use Rattle.whole_meaning.specs.Sequences.{variable_distance, with_sum, without_flags}
use Rattle.whole_meaning.specs.Threads.{Meant, Memory, begin_meant, held_next, meant_accesses, meant_mark, meant_shut}
use Rattle.whole_meaning.specs.Threads.{meant_show, meant_stack, meant_steps, meant_turns, ops, resume_meant}
use Rattle.whole_meaning.specs.Threads.{resumed_at, resumed_by, resumed_for, sequence_at, sequence_does, sequence_next}
use Rattle.thread_blocks.specs.Instances.{instances, numbered_instance}
use Rattle.thread_blocks.specs.Turns.{Begun}
use Rattle.thread_blocks.specs.Turns.{IsFront}
use Rattle.tls_map_laws.specs.Map.{Act}
use Rattle.tls_map_laws.specs.Acts.{Noted, noting}
use Rattle.tls_map_laws.specs.Meaning.{acts_at, asks_for, asks_from, meant_acts, meant_asks, noted_plain, result_acts}
use Rattle.tls_map_laws.specs.Told.{with_asked, with_look}
use Rattle.tls_map_laws.proofs.Places.{Member}
use Rattle.tls_map_laws.proofs.Noting.{plain_space}
use Rattle.tls_map_laws.proofs.Steps.{FitsIn, Proved, plain, proved_accesses}
use Rattle.tls_map_laws.proofs.Known.{Known}
use Rattle.tls_map_laws.proofs.Begins.{BegunFits, FitsBy, begin_fits, looked_fits, reached_fits}
use Rattle.tls_map_laws.proofs.Turns.{KeepsMap, NextFits}
use Rattle.tls_map_laws.proofs.Moment.{found_member}
use Rattle.guest_machine.specs.Machine.{with_answer}
use Rattle.thread_blocks.specs.RunTime.{resumed}

abbrev At : Type 0
At = After Word Flag Memory

module _ (m : Meaning) (thread : ℕ) (history : List Event) (known : Known m.loads thread history) where
  abbrev NotedAt : Type 0
  NotedAt = After Word Flag (Noted m.loads thread)

  abbrev acc : Accesses Memory Byte
  acc = meant_accesses m thread

  puts : (space : Memory) (place : ℕ) (byte : Byte)
      → acc.put space place byte ≡ put_byte (stack_start thread) space place byte
  unfolding meant_accesses space_accesses
  puts space place byte = refl

  abbrev noter : Accesses (Noted m.loads thread) Byte
  noter = noting m.loads thread acc

  abbrev space_at : Result NotedAt Stop → Result At Stop
  space_at result = mapped (λ noted. noted.space) result

  abbrev InFits : List (Act Byte) → List Owner → Memory → Type 0
  InFits acts os space = FitsIn m.loads thread history known acts os space

  module _ (os : List Owner) where
    abbrev Fine : Type 0
    Fine = Proved m.loads thread history known os acc puts

    abbrev bare : Fine → Noted m.loads thread
    bare p = plain m.loads thread history known os acc puts p

    abbrev lender : Accesses Fine Byte
    lender = proved_accesses m.loads thread history known os acc puts

    lent_proved : (number : Option ℕ) → IsImage (lent ops lender number) (lent ops noter number) bare
    lent_proved None =
        record { byte = λ p place. refl; writes = λ p place. refl; put = λ p place byte. refl; code = λ p place. refl }
    lent_proved (Some number) =
        record { byte = λ p place. refl; writes = λ p place. refl; put = λ p place byte. refl; code = λ p place. refl }

    abbrev ResultNoted : Result NotedAt Stop → Type 0
    ResultNoted (Ok at) = InFits at.memory.acts os at.memory.space
    ResultNoted (Err stop) = Unit {0}

    mapped_noted : (result : Result (After Word Flag Fine) Stop) → ResultNoted (mapped bare result)
    mapped_noted (Ok at) = at.memory.1
    mapped_noted (Err stop) = tt

    done_noted : (mark : ℕ → Mark) (why : Option Cause) (it : Option Decoded) (state : State Word Flag) (p : Fine)
        → ResultNoted (done ops noter mark why it state p.0)
    done_noted mark (Some why) it state p = tt
    done_noted mark None None state p = tt
    done_noted mark None (Some it) state p =
        let number = address_at mark state.place it.disp in
        let frame = lent_frame number (marked_frame mark state.place it) in
        subst ResultNoted (sym (act_image ops (lent ops lender number) (lent ops noter number) bare (lent_proved number)
        frame it.instr.operation state p))
        (mapped_noted (act ops (lent ops lender number) frame it.instr.operation state p))

    plain_noted : (mark : ℕ → Mark) (state : State Word Flag) (p : Fine)
        → ResultNoted (plain_step ops noter mark state p.0)
    unfolding plain_step
    plain_noted mark state p = done_noted mark _ _ state p

  -- ** results

  abbrev ResultFits : List (Act Byte) → List Owner → Result At Stop → Type 0
  ResultFits acts os (Ok at) = InFits acts os at.memory
  ResultFits acts os (Err stop) = Unit {0}

  then_fits : {A : Type 0} (acts : List (Act Byte)) (os : List Owner) (r : Result A Stop)
      (f : A → Result At Stop) → ((a : A) → ResultFits acts os (f a)) → ResultFits acts os (r >>= f)
  then_fits acts os (Ok a) f h = h a
  then_fits acts os (Err stop) f h = tt

  abbrev NextIn : List (Act Byte) → List Owner → Next At → Type 0
  NextIn acts os (Goes at) = InFits acts os at.memory
  NextIn acts os (Ends stop) = Unit {0}
  NextIn acts os (Looks at) = InFits acts os at.memory

  next_fits : (acts : List (Act Byte)) (os : List Owner) (result : Result At Stop) → ResultFits acts os result
      → NextIn acts os (next_of result)
  next_fits acts os (Ok at) fits = fits
  next_fits acts os (Err stop) fits = tt

  beside_fits : (acts : List (Act Byte)) (os : List Owner) (reaches : Bool) (here : ℕ) (result : Result At Stop)
      → ResultFits acts os result → ResultFits acts os (beside_linker reaches here result)
  beside_fits acts os true here result fits = tt
  beside_fits acts os false here result fits = fits

  noted_fits : (acts : List (Act Byte)) (os : List Owner) (result : Result NotedAt Stop) → ResultNoted os result
      → ResultFits (result_acts m thread acts result) os (space_at result)
  noted_fits acts os (Ok at) fits = fits
  noted_fits acts os (Err stop) fits = tt

  marked_fits : (acts : List (Act Byte)) (h : Meant) (shut : ℕ → Bool) → InFits acts h.owners h.after.memory
      → ResultFits (result_acts m thread acts (noted_plain m thread acts h)) h.owners
      (marked_step ops acc (meant_mark m thread h.after.memory) shut h.after.state h.after.memory)
  unfolding marked_step
  marked_fits acts h shut fits =
      let mark = meant_mark m thread h.after.memory in
      let start : Noted m.loads thread = record { space = h.after.memory; acts = acts } in
      let noted = noted_plain m thread acts h in
      beside_fits (result_acts m thread acts noted) h.owners _ h.after.state.place
      (plain_step ops acc mark h.after.state h.after.memory)
      (subst (ResultFits (result_acts m thread acts noted) h.owners)
      (sym (plain_space m thread mark h.after.state start))
      (noted_fits acts h.owners noted (plain_noted h.owners mark h.after.state (start, fits))))

  -- ** a sequence

  module _ (acts : List (Act Byte)) (os : List Owner) (s : Sequence) (start : ℕ) (state : State Word Flag)
      (memory : Memory) (fits : InFits acts os memory) where
    abbrev stack : Stack Memory
    stack = meant_stack m thread

    forgets : (below_it : ℕ) → InFits acts os (stack.forget memory below_it)
    forgets below_it = record {
      rest = fits.rest;
      data_behind = fits.data_behind;
      owners = fits.owners;
      ranges = fits.ranges;
      front = fits.front;
      live = fits.live;
      untouched = fits.untouched;
    }

    called_fits : (word : Word) → ResultFits acts os (called_with stack s thread start word state memory)
    called_fits word =
        then_fits acts os (clean state.place (stack_use stack state memory))
        (λ low. Ok (left (at_place (with_answer (after_call state) word) s.next) (stack.forget memory low)))
        (λ low. forgets low)

    added_fits : ResultFits acts os (added stack s thread start state memory)
    added_fits =
        let distance = variable_distance s start state.thread_pointer in
        then_fits acts os (clean state.place (used_number (register_of state.registers s.register)))
        (λ number. Ok (left (at_place (with_sum stack s thread start (plus number distance) state) s.next) memory))
        (λ number. fits)

    descriptor_fits : ResultFits acts os (descriptor_called stack s thread start state memory)
    descriptor_fits =
        let answer : Word = Number (variable_distance s start state.thread_pointer) in
        then_fits acts os (clean state.place (descriptor_calls stack s thread start state memory))
        (λ uses. Ok (left (at_place (without_flags (with_answer state answer)) s.next) (stack.forget memory uses.1)))
        (λ uses. forgets uses.1)

    form_fits : (form : Form) → ResultFits acts os (does stack s thread start form state memory)
    form_fits Gd = called_fits (Number (variable_address s start))
    form_fits GdInd = called_fits (Number (variable_address s start))
    form_fits Ld = called_fits (own_base stack s thread start)
    form_fits LdInd = called_fits (own_base stack s thread start)
    form_fits IeMov = fits
    form_fits IeAdd = added_fits
    form_fits DescLea = fits
    form_fits DescCall = descriptor_fits

    sequence_fits : ResultFits acts os (sequence_result (meant_stack m thread) s thread start state memory)
    unfolding sequence_result
    sequence_fits = form_fits s.form

  does_fits : (acts : List (Act Byte)) (os : List Owner) (s : Sequence) (at : At) → InFits acts os at.memory
      → ResultFits acts os (sequence_does m thread s at)
  does_fits acts os s at fits = sequence_fits acts os s _ at.state at.memory fits

  looks_fits : (acts : List (Act Byte)) (os : List Owner) (first : Bool) (at : At) (result : Result At Stop)
      → InFits acts os at.memory → ResultFits acts os result → NextIn acts os (looks_first first at result)
  looks_fits acts os false at result fits after = next_fits acts os result after
  looks_fits acts os true at (Ok next) fits after = fits
  looks_fits acts os true at (Err stop) fits after = tt

  -- ** a step

  abbrev Fit : List (Act Byte) → Meant → Type 0
  Fit acts h = FitsBy m.loads thread history known acts h

  abbrev Begin : List (Act Byte) → Begun Meant → Type 0
  Begin acts begun = BegunFits m.loads thread history known acts begun

  either_fits : (acts : List (Act Byte)) (h : Meant) (s : Option Sequence) → Fit acts h
      → NextIn (acts_at m thread s acts h) h.owners (unwrap_or (option_map (sequence_next m thread h.after) s)
      (next_of (marked_step ops acc (meant_mark m thread h.after.memory)
      (meant_shut m thread h.after.memory) h.after.state h.after.memory)))
  either_fits acts h None fits =
      next_fits (acts_at m thread None acts h) h.owners _ (marked_fits acts h (meant_shut m thread h.after.memory) fits)
  either_fits acts h (Some s) fits =
      looks_fits acts h.owners _ h.after (sequence_does m thread s h.after) fits
      (does_fits acts h.owners s h.after fits)

  held_fits : (acts : List (Act Byte)) (h : Meant) (next : Next At) → NextIn acts h.owners next
      → NextFits m.loads thread history known acts (held_next m thread h next)
  held_fits acts h (Goes at) fits = fits
  held_fits acts h (Ends stop) fits = tt
  held_fits acts h (Looks at) fits = fits

  step_fits : (acts : List (Act Byte)) (h : Meant) → Fit acts h
      → NextFits m.loads thread history known (meant_acts m thread acts h) ((meant_steps m thread).step h)
  unfolding meant_steps meaning
  step_fits acts h fits =
      held_fits (meant_acts m thread acts h) h _
      (either_fits acts h (sequence_at m thread h.after.memory.seen h.after.state.place) fits)

  -- ** looks

  resumed_fits : (acts : List (Act Byte)) (h : Meant) (result : Result At Stop) → Fit acts h
      → ResultFits acts h.owners result → Begin acts (resumed h result)
  resumed_fits acts h (Ok after) fits now = now
  resumed_fits acts h (Err stop) fits now = fits

  by_fits : (acts : List (Act Byte)) (h : Meant) (s : Sequence) (x : Option Instance) → Fit acts h
      → ((y : Instance) → x ≡ Some y → Member y (instances m.loads h.after.memory.seen))
      → Begin (with_asked m.loads x acts) (resumed_by m thread h s x)
  by_fits acts h s None fits member = fits
  by_fits acts h s (Some x) fits member =
      let now = reached_fits m.loads thread history known acts x h fits (member x refl) in
      let g = reached m.loads thread x h in
      resumed_fits (with_asked m.loads (Some x) acts) g (sequence_does m thread s g.after) now
      (does_fits (with_asked m.loads (Some x) acts) g.owners s g.after now)

  at_fits : (acts : List (Act Byte)) (h : Meant) (s : Option Sequence) → Fit acts h
      → Begin (with_asked m.loads (asks_for m thread h.after.memory.seen s) acts) (resumed_at m thread h s)
  at_fits acts h None fits = fits
  at_fits acts h (Some s) fits =
      by_fits acts h s (numbered_instance m.loads h.after.memory.seen s.target) fits
      (λ y e. found_member (λ (x : Instance). x.number == s.target) (instances m.loads h.after.memory.seen) y e)

  for_fits : (acts : List (Act Byte)) (h : Meant) (x : Option Instance) → Fit acts h
      → Begin (with_asked m.loads (asks_from m thread h.after.memory.seen h.after.state.place x) acts)
      (resumed_for m thread h x)
  for_fits acts h None fits = fits
  for_fits acts h (Some x) fits = at_fits acts h (sequence_at m thread h.after.memory.seen h.after.state.place) fits

  resume_fits : (acts : List (Act Byte)) (seen : List Event) (h : Meant) → Fit acts h → IsFront h.after.memory.seen seen
      → IsFront seen history
      → Begin (with_asked m.loads (meant_asks m thread seen h) (with_look m.loads seen acts))
      (resume_meant m thread seen h)
  unfolding resume_meant
  resume_fits acts seen h fits f g =
      for_fits (with_look m.loads seen acts) (looked m.loads thread seen h) _
      (looked_fits m.loads thread history known acts seen h fits f g)

  -- the law of a thread
  pub meant_keeps : (fuel : ℕ)
      → KeepsMap m.loads thread history known (meant_turns m thread fuel) (meant_acts m thread) (meant_asks m thread)
  unfolding meant_turns begin_meant
  meant_keeps fuel = record {
    step = λ acts h fits. step_fits acts h fits;
    begin = λ acts line seen h fits f g.
        begin_fits ops m.loads (meant_show m thread line seen) thread history known acts line seen h fits f g;
    resume = λ acts seen h fits f g. resume_fits acts seen h fits f g;
  }
