-- In the machine and in the meaning no step, no look and no return stops for want of steps.
use Rattle.std.proofs.Common.{◌≡◌, ℕ, zero, suc, ◌+◌, ◌-◌, Bool, true, false, List, Option, Some, None, Result, Ok, Err}
use Rattle.std.proofs.Common.{subst}
use Rattle.std.specs.Prelude.{◌%◌, ◌^◌, ◌&&◌, ◌==◌, take, length, nat_le, is_none, option_map, unwrap_or, if◌then◌else◌}
use Rattle.std.specs.List.{list_all}
use Rattle.std.specs.Option.{option_or}
use Rattle.address_map.specs.Map.{owner_at}
use Rattle.amd64_subset.specs.Beginning.{begins_of}
use Rattle.amd64_subset.specs.declared.instr.Decoded.{Decoded}
use Rattle.guest_arithmetic.specs.declared.cause.Cause.{Cause}
use Rattle.guest_arithmetic.specs.declared.cause.Cause.TheVariants as cause
use Rattle.guest_arithmetic.specs.Plain.{plain_operations}
use Rattle.guest_arithmetic.specs.Values.{Operations}
use Rattle.guest_operands.specs.declared.state.State.{State}
use Rattle.guest_operands.specs.declared.stop.Stop.{Stop}
use Rattle.guest_operands.specs.declared.stop.Stop.TheVariants.{Returned, Look, Address, Code, Unclean, Steps}
use Rattle.guest_operands.specs.Access.{Accesses, fetch_of}
use Rattle.guest_operands.specs.State.{register_of}
use Rattle.guest_operands.specs.Use.{◌>>=◌, After, plus}
use Rattle.guest_machine.specs.Machine.{with_answer}
use Rattle.guest_machine.specs.Run.{Ends, Goes, Looks, Next, is_look, machine, next_of, returned}
use Rattle.guest_machine.specs.Touch.{places_from}
use Rattle.job_meaning.specs.declared.values.Byte.{Byte}
use Rattle.job_meaning.specs.declared.values.Flag.{Flag}
use Rattle.job_meaning.specs.declared.values.Flag.TheVariants.{Truth, Unsettled}
use Rattle.job_meaning.specs.declared.values.Token.TheVariants.{Base, Descriptor}
use Rattle.job_meaning.specs.declared.values.Word.{Word}
use Rattle.job_meaning.specs.declared.values.Word.TheVariants.{Number, Undefined, Marked}
use Rattle.job_meaning.specs.Marked.{is_same, marked_operations, moved_in, used_number, used_truth, values_of}
use Rattle.job_meaning.specs.Reading.{beside_linker, completed, linker_with, place_at}
use Rattle.job_text.specs.declared.thread_lines.Action.{Action}
use Rattle.job_text.specs.declared.thread_lines.Action.TheVariants.{Call, Open, Close, Peek}
use Rattle.loaded_modules.specs.declared.instance.Instance.{Instance}
use Rattle.module_table.specs.declared.events.CloseRefusal.{CloseRefusal}
use Rattle.module_table.specs.declared.events.Event.{Event}
use Rattle.module_table.specs.declared.events.OpenRefusal.{OpenRefusal}
use Rattle.module_table.specs.Past.{open_refusal, close_refusal}
use Rattle.sequence_forms.specs.declared.forms.Form.{Form}
use Rattle.sequence_forms.specs.declared.forms.Form.TheVariants.{Gd, Ld, IeMov, IeAdd, GdInd, LdInd, DescLea, DescCall}
use Rattle.thread_blocks.specs.declared.asked.Asked.{Asked}
use Rattle.thread_blocks.specs.Held.{Held, block_bytes, looked, owned_by, reached}
use Rattle.thread_blocks.specs.Instances.{Loads, instance_at, instance_with_id, is_startup_id, left_by}
use Rattle.thread_blocks.specs.Instances.{numbered_instance}
use Rattle.thread_blocks.specs.Lines.{Line, begin_line, begun_at, begun_by, begun_close, begun_in, begun_open}
use Rattle.thread_blocks.specs.Lines.{begun_peek, shown_from, shown_in}
use Rattle.thread_blocks.specs.RunTime as runtime
use Rattle.thread_blocks.specs.RunTime.{Runs, answer_word, answered, asked_at, asked_next, found_at_once, goes_answered}
use Rattle.thread_blocks.specs.RunTime.{resume_line, resumed_in, shows, thread_accesses, thread_next, thread_steps}
use Rattle.thread_blocks.specs.RunTime.{thread_turns}
use Rattle.thread_blocks.specs.Spaces.{Space, no_field}
use Rattle.thread_blocks.specs.Turns.{Answered, Begun, Calls, Ending, Says, Stopped}
use Rattle.whole_meaning.specs.declared.marks.Mark.{Mark}
use Rattle.whole_meaning.specs.declared.marks.Mark.TheVariants.{Usual, Offset, Address as AddressMark, Inside}
use Rattle.whole_meaning.specs.declared.sequences.Sequence.{Sequence}
use Rattle.whole_meaning.specs.Fields.{address_at, lent, lent_frame, marked_frame, takes_address, takes_offset}
use Rattle.whole_meaning.specs.Meanings.{Meaning}
use Rattle.whole_meaning.specs.Reading.{done, first_hindrance, hindered, hindrance, hindrance_of, marked_step}
use Rattle.whole_meaning.specs.Reading.{plain_step, reaches_linker}
use Rattle.whole_meaning.specs.Running.{meaning}
use Rattle.whole_meaning.specs.Sequences.{Stack, descriptor_use, does, looks_first, room_below, sequence_result}
use Rattle.whole_meaning.specs.Sequences.{stack_use}
use Rattle.whole_meaning.specs.Threads as threads
use Rattle.whole_meaning.specs.Threads.{Meant, Memory, begin_meant, byte_cause, code_owner, held_next, meant_accesses}
use Rattle.whole_meaning.specs.Threads.{meant_mark, meant_sequence, meant_show, meant_shut, meant_stack, meant_steps}
use Rattle.whole_meaning.specs.Threads.{meant_turns, ops, resume_meant, resumed_at, resumed_for, sequence_at}
use Rattle.whole_meaning.specs.Threads.{sequence_does, sequence_next, shown_as, unclean_bytes, unclean_for}
use Rattle.line_laws.proofs.Leading.{IsSpentAlone}
use Rattle.line_laws.proofs.NoSteps.{HasOwnCauses, IsOwnCause, IsOwnStop, IsUsed, Stays, act-stays, both-are, first-own}
use Rattle.line_laws.proofs.NoSteps.{return-stays, stays-clean, stays-if, step-stays}

-- ** results

abbrev NextOwn : {S : Type 0} → Next S → Type 0
NextOwn (Goes s) = Unit {0}
NextOwn (Ends stop) = IsOwnStop stop
NextOwn (Looks s) = Unit {0}

abbrev EndsOwn : Ending → Type 0
EndsOwn (Answered answer) = Unit {0}
EndsOwn (Stopped stop) = IsOwnStop stop

abbrev BegunOwn : {S : Type 0} → Begun S → Type 0
BegunOwn (Says ending s) = EndsOwn ending
BegunOwn (Calls s) = Unit {0}

abbrev OverOwn : Option Stop → Type 0
OverOwn None = Unit {0}
OverOwn (Some stop) = IsOwnStop stop

abbrev CauseOwn : Option Cause → Type 0
CauseOwn None = Unit {0}
CauseOwn (Some why) = IsOwnCause why

next-own : {W F M : Type 0} (r : Result (After W F M) Stop) → Stays r → NextOwn (next_of r)
next-own (Ok after) h = tt
next-own (Err stop) h = h

either-next : {S : Type 0} (b : Bool) (x y : Next S) → NextOwn x → NextOwn y → NextOwn (if b then x else y)
either-next true x y h k = h
either-next false x y h k = k

either-begun : {S : Type 0} (b : Bool) (x y : Begun S) → BegunOwn x → BegunOwn y → BegunOwn (if b then x else y)
either-begun true x y h k = h
either-begun false x y h k = k

returned-own : (r : Result ℕ Cause) (place : ℕ) → IsOwnStop (returned r place)
returned-own (Ok number) place = tt
returned-own (Err why) place = tt

over-own : (b : Bool) (stop : Stop) → IsOwnStop stop → OverOwn (if b then Some stop else None)
over-own true stop h = h
over-own false stop h = tt

-- ** a line's first look

module _ {W F B : Type 0} (values : Operations W F B) (l : Loads B) (show : List B → Ending)
    (own : (bytes : List B) → EndsOwn (show bytes)) (thread : ℕ) where
  called-own : (symbol : List ℕ) (a b c : ℕ) (h : Held W F B) (place : Option ℕ)
      → BegunOwn (begun_at values l show thread symbol a b c h place)
  called-own symbol a b c h None = tt
  called-own symbol a b c h (Some place) = tt

  call-own : (symbol : List ℕ) (a b c : ℕ) (h : Held W F B) (x : Option Instance)
      → BegunOwn (begun_in values l show thread symbol a b c h x)
  call-own symbol a b c h None = tt
  call-own symbol a b c h (Some x) = called-own symbol a b c h (l.function x symbol)

  open-own : (line : Line) (seen : List Event) (h : Held W F B) (refusal : Option OpenRefusal)
      → BegunOwn (begun_open values l show thread line seen h refusal)
  open-own line seen h None = tt
  open-own line seen h (Some refusal) = tt

  close-own : (line : Line) (seen : List Event) (h : Held W F B) (refusal : Option CloseRefusal)
      → BegunOwn (begun_close values l show thread line seen h refusal)
  close-own line seen h None = tt
  close-own line seen h (Some refusal) = tt

  shown-own : (h : Held W F B) (size offset : ℕ) (bytes : Option (List B))
      → BegunOwn (shown_in values l show thread h size offset bytes)
  shown-own h size offset None = tt
  shown-own h size offset (Some bytes) = either-begun (nat_le (offset + size) (length bytes)) _ _ (own _) tt

  from-own : (h : Held W F B) (size : ℕ) (x : Instance) (offset : Option ℕ)
      → BegunOwn (shown_from values l show thread h size x offset)
  from-own h size x None = tt
  from-own h size x (Some offset) = shown-own h size offset (block_bytes x.number (owned_by h))

  peek-own : (line : Line) (symbol : List ℕ) (size : ℕ) (h : Held W F B) (x : Option Instance)
      → BegunOwn (begun_peek values l show thread line symbol size h x)
  peek-own line symbol size h None = tt
  peek-own line symbol size h (Some x) = from-own (reached l thread x h) size x (l.variable line.told.image symbol)

  by-own : (line : Line) (seen : List Event) (h : Held W F B) (action : Action)
      → BegunOwn (begun_by values l show thread line seen h action)
  by-own line seen h (Call symbol a b c) = call-own symbol a b c h (instance_at l seen line.told.image)
  by-own line seen h Open = open-own line seen h (open_refusal (left_by l seen) line.told.image)
  by-own line seen h Close = close-own line seen h (close_refusal (left_by l seen) line.told.image)
  by-own line seen h (Peek symbol size) = peek-own line symbol size h (instance_at l seen line.told.image)

  begin-own : (line : Line) (seen : List Event) (h : Held W F B)
      → BegunOwn (begin_line values l show thread line seen h)
  unfolding begin_line
  begin-own line seen h = by-own line seen (looked l thread seen h) line.told.action

-- ** the machine

plain-own : HasOwnCauses plain_operations
unfolding plain_operations
plain-own = record { number_of = λ w. tt; truth_of = λ f. tt; moved = λ w n at. tt; misused = λ n. tt }

module _ (l : Loads ℕ) (thread : ℕ) where
  answer-own : (asked : Asked) (x : Instance) (h : Runs) → Stays (answered l thread asked x h)
  answer-own asked x h =
      return-stays plain_operations (thread_accesses l thread) plain-own
      (with_answer h.after.state (answer_word l thread asked x)) h.after.memory

  goes-own : (h : Runs) (r : Result (After ℕ Bool (Space Event ℕ)) Stop) → Stays r
      → NextOwn (goes_answered l thread h r)
  goes-own h (Ok after) k = tt
  goes-own h (Err stop) k = k

  found-own : (asked : Asked) (h : Runs) (x : Option Instance) → NextOwn (found_at_once l thread asked h x)
  found-own asked h None = tt
  found-own asked h (Some x) = goes-own h (answered l thread asked x h) (answer-own asked x h)

  asked-own : (h : Runs) (asked : Option Asked) → NextOwn (asked_next l thread h asked)
  asked-own h None = tt
  asked-own h (Some asked) = either-next (is_startup_id l asked.id) _ _
      (found-own asked h (instance_with_id l h.after.memory.seen asked.id)) tt

  thread-own : (h : Runs) (next : Next (After ℕ Bool (Space Event ℕ))) → NextOwn next
      → NextOwn (thread_next l thread h next)
  thread-own h (Goes at) k = tt
  thread-own h (Ends stop) k = k
  thread-own h (Looks at) k = asked-own h (asked_at l thread at)

  step-own : (h : Runs) → NextOwn ((thread_steps l thread).step h)
  unfolding thread_steps machine
  step-own h = thread-own h _ (either-next (is_look h.after.state.place) (Looks h.after) _ tt
      (next-own _ (step-stays plain_operations (thread_accesses l thread) plain-own
      (no_field h.after.memory) h.after.state h.after.memory)))

  ended-own : (h : Runs) → OverOwn ((thread_steps l thread).over h)
  unfolding thread_steps machine
  ended-own h = over-own (h.after.state.place == 0x2000) _
      (returned-own (plain_operations.number_of h.after.state.registers.rax) h.after.state.place)

  result-own : (h : Runs) (r : Result (After ℕ Bool (Space Event ℕ)) Stop) → Stays r → BegunOwn (runtime.resumed h r)
  result-own h (Ok after) k = tt
  result-own h (Err stop) k = k

  in-own : (asked : Asked) (h : Runs) (x : Option Instance) → BegunOwn (resumed_in l thread asked h x)
  in-own asked h None = tt
  in-own asked h (Some x) = result-own (reached l thread x h) _ (answer-own asked x (reached l thread x h))

  resumed-own : (seen : List Event) (h : Runs) (asked : Option Asked)
      → BegunOwn (runtime.resumed_by l thread seen h asked)
  resumed-own seen h None = tt
  resumed-own seen h (Some asked) = either-begun (is_none (numbered_instance l seen asked.asking)) _ _ tt
      (in-own asked h (instance_with_id l seen asked.id))

  resume-own : (seen : List Event) (h : Runs) → BegunOwn (resume_line l thread seen h)
  unfolding resume_line
  resume-own seen h = resumed-own seen (looked l thread seen (record h { asked = None })) h.asked

-- ** so it is alone

abbrev pub IsForSteps : Stop → Type 0
IsForSteps stop = IsOwnStop stop → ⊥

of_over : (o : Option Stop) (stop : Stop) → OverOwn o → o ≡ Some stop → IsForSteps stop → ⊥
of_over o stop own e p = p (subst OverOwn e own)

of_step : {S : Type 0} (next : Next S) (stop : Stop) → NextOwn next → next ≡ Ends stop → IsForSteps stop → ⊥
of_step next stop own e p = p (subst (λ (n : Next _). NextOwn n) e own)

of_begun : {S : Type 0} (begun : Begun S) (s : S) (stop : Stop) → BegunOwn begun → begun ≡ Says (Stopped stop) s
    → IsForSteps stop → ⊥
of_begun begun s stop own e p = p (subst (λ (b : Begun _). BegunOwn b) e own)

pub machine_alone : (l : Loads ℕ) (thread fuel : ℕ) → IsSpentAlone (thread_turns l thread fuel) IsForSteps
unfolding thread_turns
machine_alone l thread fuel = record {
  over = λ h stop. of_over _ stop (ended-own l thread h);
  step = λ h stop. of_step _ stop (step-own l thread h);
  begin = λ line seen held h stop. of_begun _ h stop
      (begin-own plain_operations l (shows l thread) (λ bytes. tt) thread line seen held);
  resume = λ seen held h stop. of_begun _ h stop (resume-own l thread seen held);
}

-- ** the meaning

number-own : (w : Word) → IsUsed (used_number w)
number-own (Number n) = tt
number-own Undefined = tt
number-own (Marked (Base block)) = tt
number-own (Marked (Descriptor instance symbol)) = tt

truth-own : (f : Flag) → IsUsed (used_truth f)
truth-own (Truth b) = tt
truth-own Unsettled = tt

either-used : {A : Type 0} (b : Bool) (x y : Result A Cause) → IsUsed x → IsUsed y → IsUsed (if b then x else y)
either-used true x y h k = h
either-used false x y h k = k

moved-own : (w : Word) (n at : ℕ) → IsUsed (moved_in owner_at w n at)
moved-own (Number m) n at = tt
moved-own Undefined n at = tt
moved-own (Marked (Base block)) n at =
    either-used (block.instance == owner_at at) (Ok ((block.start + n) % 2 ^ 64)) (Err cause.Field) tt tt
moved-own (Marked (Descriptor instance symbol)) n at = tt

marked-own : HasOwnCauses ops
unfolding marked_operations
marked-own = record {
  number_of = number-own;
  truth_of = truth-own;
  moved = moved-own;
  misused = λ n. tt;
}

-- a step where no sequence begins
module _ (mark : ℕ → Mark) (state : State Word Flag) where
  taken-own : (taken : Bool) → CauseOwn (if taken then None else Some cause.Field)
  taken-own true = tt
  taken-own false = tt

  mark-own : (it : Option Decoded) (k : ℕ) (met : Mark) → CauseOwn (hindrance_of ops mark state it k met)
  mark-own it k Usual = tt
  mark-own None k (Offset number byte) = tt
  mark-own (Some it) k (Offset number byte) = taken-own (nat_le byte k && takes_offset ops mark state (k - byte) it)
  mark-own None k (AddressMark number addend byte) = tt
  mark-own (Some it) k (AddressMark number addend byte) =
      taken-own (nat_le byte k && takes_address ops mark state addend (k - byte) it)
  mark-own it k Inside = tt

  if-own : (b : Bool) (c : Option Cause) → CauseOwn c → CauseOwn (if b then c else None)
  if-own true c h = h
  if-own false c h = tt

  or-own : (a b : Option Cause) → CauseOwn a → CauseOwn b → CauseOwn (option_or a b)
  or-own None b h k = k
  or-own (Some why) b h k = h

  byte-own : (bytes : List ℕ) (k : ℕ) → CauseOwn (hindered ops mark state bytes k)
  byte-own bytes k = if-own (begins_of (take k bytes)) _ (mark-own (completed bytes) k (mark (place_at state.place k)))

  from-on : (bytes : List ℕ) (k more : ℕ) → CauseOwn (first_hindrance ops mark state bytes k more)
  from-on bytes k zero = byte-own bytes k
  from-on bytes k (suc more) = or-own _ _ (byte-own bytes k) (from-on bytes (k + 1) more)

  reading-own : (bytes : List ℕ) → CauseOwn (hindrance ops mark state bytes)
  unfolding hindrance
  reading-own bytes = from-on bytes 0 (length bytes)

module _ {M : Type 0} (acc : Accesses M Byte) (mark : ℕ → Mark) (state : State Word Flag) (memory : M) where
  done-own : (why : Option Cause) (it : Option Decoded) → CauseOwn why → Stays (done ops acc mark why it state memory)
  done-own (Some why) it h = h
  done-own None None h = tt
  done-own None (Some it) h =
      act-stays ops (lent ops acc (address_at mark state.place it.disp)) marked-own
      (lent_frame (address_at mark state.place it.disp)
      (marked_frame mark state.place it)) it.instr.operation state memory

  plain_step-own : Stays (plain_step ops acc mark state memory)
  unfolding plain_step
  plain_step-own = done-own _ _ (reading-own mark state (fetch_of acc memory state.place))

  linker-own : {A : Type 0} (r : Result A Stop) → Stays r → IsOwnCause (linker_with r)
  linker-own (Ok x) h = tt
  linker-own (Err (Returned number)) h = tt
  linker-own (Err (Look place)) h = tt
  linker-own (Err (Address place)) h = tt
  linker-own (Err (Code place)) h = tt
  linker-own (Err (Unclean place why)) h = first-own why cause.Linker h tt
  linker-own (Err (Steps place)) h = absurd h

  beside-own : (b : Bool) (r : Result (After Word Flag M) Stop) → Stays r → Stays (beside_linker b state.place r)
  beside-own b r h = stays-if b (Err (Unclean state.place (linker_with r))) r (linker-own r h) h

  marked_step-own : (shut : ℕ → Bool) → Stays (marked_step ops acc mark shut state memory)
  unfolding marked_step
  marked_step-own shut = beside-own (reaches_linker ops acc mark shut state memory) _ plain_step-own

-- the step of a sequence
then-own : {A C : Type 0} (r : Result A Stop) (f : A → Result C Stop) → Stays r → ((x : A) → Stays (f x))
    → Stays (r >>= f)
then-own (Ok x) f h k = k x
then-own (Err stop) f h k = h

module _ (stack : Stack Memory) (s : Sequence) (thread start : ℕ) where
  room-own : (memory : Memory) (r : Result ℕ Cause) → IsUsed r → IsUsed (room_below stack memory r)
  room-own memory (Ok number) h =
      either-used (list_all (stack.holds memory) (places_from (plus number (2 ^ 64 - 8)) 8)) (Ok number)
      (Err cause.Undefined) tt tt
  room-own memory (Err why) h = h

  stack-own : (state : State Word Flag) (memory : Memory) → IsUsed (stack_use stack state memory)
  stack-own state memory = room-own memory (used_number state.registers.rsp) (number-own state.registers.rsp)

  descriptor-own : (w : Word) → IsUsed (descriptor_use s w)
  descriptor-own (Number n) = tt
  descriptor-own Undefined = tt
  descriptor-own (Marked (Base block)) = tt
  descriptor-own (Marked (Descriptor instance symbol)) =
      either-used (is_same (Descriptor instance symbol) (Descriptor s.instance s.symbol)) (Ok tt)
      (Err cause.Descriptor) tt tt

  does-own : (form : Form) (state : State Word Flag) (memory : Memory)
      → Stays (does stack s thread start form state memory)
  does-own Gd state memory = then-own _ _ (stays-clean state.place _ (stack-own state memory)) (λ below. tt)
  does-own GdInd state memory = then-own _ _ (stays-clean state.place _ (stack-own state memory)) (λ below. tt)
  does-own Ld state memory = then-own _ _ (stays-clean state.place _ (stack-own state memory)) (λ below. tt)
  does-own LdInd state memory = then-own _ _ (stays-clean state.place _ (stack-own state memory)) (λ below. tt)
  does-own IeMov state memory = tt
  does-own IeAdd state memory =
      then-own _ _ (stays-clean state.place (used_number (register_of state.registers s.register))
      (number-own (register_of state.registers s.register))) (λ number. tt)
  does-own DescLea state memory = tt
  does-own DescCall state memory =
      then-own _ _ (stays-clean state.place _
      (both-are _ _ (descriptor-own state.registers.rax) (stack-own state memory))) (λ uses. tt)

  sequence-own : (state : State Word Flag) (memory : Memory) → Stays (sequence_result stack s thread start state memory)
  unfolding sequence_result
  sequence-own state memory = does-own s.form state memory

module _ (m : Meaning) (thread : ℕ) where
  does_so-own : (s : Sequence) (at : After Word Flag Memory) → Stays (sequence_does m thread s at)
  does_so-own s at = sequence-own (meant_stack m thread) s thread _ at.state at.memory

  looks-own : (b : Bool) (at : After Word Flag Memory) (r : Result (After Word Flag Memory) Stop) → Stays r
      → NextOwn (looks_first b at r)
  looks-own false at (Ok after) h = tt
  looks-own false at (Err stop) h = h
  looks-own true at (Ok after) h = tt
  looks-own true at (Err stop) h = h

  sequences-own : (at : After Word Flag Memory) (s : Option Sequence) (next : Next (After Word Flag Memory))
      → NextOwn next
      → NextOwn (unwrap_or (option_map (sequence_next m thread at) s) next)
  sequences-own at None next h = h
  sequences-own at (Some s) next h = looks-own _ at (sequence_does m thread s at) (does_so-own s at)

  held-own : (h : Meant) (next : Next (After Word Flag Memory)) → NextOwn next → NextOwn (held_next m thread h next)
  held-own h (Goes at) k = tt
  held-own h (Ends stop) k = k
  held-own h (Looks at) k = tt

  meant_step-own : (h : Meant) → NextOwn ((meant_steps m thread).step h)
  unfolding meant_steps meaning
  meant_step-own h = held-own h _
      (sequences-own h.after (sequence_at m thread h.after.memory.seen h.after.state.place) _
      (next-own _ (marked_step-own (meant_accesses m thread)
      (meant_mark m thread h.after.memory) h.after.state h.after.memory
      (meant_shut m thread h.after.memory))))

  meant_over-own : (h : Meant) → OverOwn ((meant_steps m thread).over h)
  unfolding meant_steps meaning
  meant_over-own h = over-own (h.after.state.place == 0x2000) _
      (returned-own (ops.number_of h.after.state.registers.rax) h.after.state.place)

  meant_result-own : (h : Meant) (r : Result (After Word Flag Memory) Stop) → Stays r → BegunOwn (runtime.resumed h r)
  meant_result-own h (Ok after) k = tt
  meant_result-own h (Err stop) k = k

  target-own : (h : Meant) (s : Sequence) (x : Option Instance) → BegunOwn (threads.resumed_by m thread h s x)
  target-own h s None = tt
  target-own h s (Some x) =
      meant_result-own (reached m.loads thread x h) _ (does_so-own s (reached m.loads thread x h).after)

  at-own : (h : Meant) (s : Option Sequence) → BegunOwn (resumed_at m thread h s)
  at-own h None = tt
  at-own h (Some s) = target-own h s (numbered_instance m.loads h.after.memory.seen s.target)

  for-own : (h : Meant) (x : Option Instance) → BegunOwn (resumed_for m thread h x)
  for-own h None = tt
  for-own h (Some x) = at-own h (sequence_at m thread h.after.memory.seen h.after.state.place)

  resume_meant-own : (seen : List Event) (h : Meant) → BegunOwn (resume_meant m thread seen h)
  unfolding resume_meant
  resume_meant-own seen h = let h = looked m.loads thread seen h in
      for-own h (code_owner m thread seen h.after.state.place)

  -- bytes that a line shows
  or_unclean : (a b : Option Stop) → OverOwn a → OverOwn b → OverOwn (option_or a b)
  or_unclean None b h k = k
  or_unclean (Some stop) b h k = h

  place-own : (address : ℕ) (why : Cause) → IsOwnCause why → (k : Option ℕ)
      → OverOwn (option_map (λ k. Unclean (address + k) why) k)
  place-own address why own None = tt
  place-own address why own (Some k) = own

  or_else-own : (a : Option Stop) (stop : Stop) → OverOwn a → IsOwnStop stop → IsOwnStop (unwrap_or a stop)
  or_else-own None stop h k = k
  or_else-own (Some other) stop h k = h

  bytes-own : (address : ℕ) (bytes : List Byte) → IsOwnStop (unclean_bytes m thread address bytes)
  bytes-own address bytes = or_else-own _ _
      (or_unclean (unclean_for m thread address bytes cause.Undefined) _ (place-own address cause.Undefined tt _)
      (or_unclean (unclean_for m thread address bytes cause.Base) (unclean_for m thread address bytes cause.Descriptor)
      (place-own address cause.Base tt _) (place-own address cause.Descriptor tt _))) tt

  shows-own : (address : ℕ) (bytes : List Byte) (numbers : Option (List ℕ))
      → EndsOwn (shown_as m thread address bytes numbers)
  shows-own address bytes None = bytes-own address bytes
  shows-own address bytes (Some numbers) = tt

  begin_meant-own : (line : Line) (seen : List Event) (h : Meant) → BegunOwn (begin_meant m thread line seen h)
  unfolding begin_meant
  begin_meant-own line seen h = begin-own ops m.loads (meant_show m thread line seen)
      (λ bytes. shows-own _ bytes (values_of bytes)) thread line seen h

pub meaning_alone : (m : Meaning) (thread fuel : ℕ) → IsSpentAlone (meant_turns m thread fuel) IsForSteps
unfolding meant_turns
meaning_alone m thread fuel = record {
  over = λ h stop. of_over _ stop (meant_over-own m thread h);
  step = λ h stop. of_step _ stop (meant_step-own m thread h);
  begin = λ line seen held h stop. of_begun _ h stop (begin_meant-own m thread line seen held);
  resume = λ seen held h stop. of_begun _ h stop (resume_meant-own m thread seen held);
}
