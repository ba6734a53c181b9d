-- The run time that code calls: `__tls_get_addr`, and the function of TLS descriptors (Drepper, "ELF
-- Handling For Thread-Local Storage", section 3.4.6; psABI, "TLS Descriptors").
use Rattle.std.specs.Prelude.{◌+◌, ◌-◌, ◌*◌, ◌/◌, ◌%◌, ◌^◌, ◌==◌, ◌&&◌, ℕ, Bool, true, false, List, ◌∷◌, length, Option}
use Rattle.std.specs.Prelude.{Some, None, Result, Ok, Err, nat_le, is_none, if◌then◌else◌}
use Rattle.std.specs.List.{find, list_any}
use Rattle.address_map.specs.Map.{descriptor_place, pointer_of, stack_start}
use Rattle.guest_arithmetic.specs.Plain.{plain_operations}
use Rattle.guest_arithmetic.specs.Values.{number_from}
use Rattle.guest_operands.specs.declared.stop.Stop.{Stop}
use Rattle.guest_operands.specs.declared.stop.Stop.TheVariants.{Address}
use Rattle.guest_machine.specs.Access.{Accesses, Refusal, bytes_at, both_reached, reached as read_as}
use Rattle.guest_machine.specs.Machine.{answer_of}
use Rattle.guest_machine.specs.Ranges.{Range}
use Rattle.guest_machine.specs.Run.{Next, Goes, Ends, Looks, Stepping, machine}
use Rattle.guest_machine.specs.Use.{After}
use Rattle.loaded_modules.specs.declared.instance.Instance.{Instance}
use Rattle.module_table.specs.declared.events.Event.{Event}
use Rattle.transcript_text.specs.declared.outcomes.LineFault.TheVariants.{Unloaded}
use Rattle.transcript_text.specs.declared.outcomes.Outcome.TheVariants.{Bytes, Fault}
use Rattle.thread_blocks.specs.declared.asked.Asked.{Asked}
use Rattle.thread_blocks.specs.Held.{Held, looked, reached}
use Rattle.thread_blocks.specs.Instances.{Loads, fixed_at, instances, instance_with_id, is_startup_id}
use Rattle.thread_blocks.specs.Instances.{numbered_instance, block_start}
use Rattle.thread_blocks.specs.Lines.{Line, begin_line}
use Rattle.thread_blocks.specs.MachineTurns.{pointer_word}
use Rattle.thread_blocks.specs.Spaces.{Space, space_accesses, no_field}
use Rattle.thread_blocks.specs.Turns.{Ending, Answered, Stopped, Begun, Says, Calls, Turns}

-- what a thread of the machine holds
abbrev pub Runs : Type 0
Runs = Held ℕ Bool ℕ

-- whether the 16 bytes from an address on lie in a range
abbrev pub has_words : ℕ → Range ℕ → Bool
has_words address range = nat_le range.start address && nat_le (address + 16) (range.start + length range.bytes)

abbrev pub pair : ℕ → ℕ → ℕ × ℕ
pair a b = (a, b)

-- a line goes on after a look, or ends with a stop
abbrev pub resumed : {W F B : Type 0} → Held W F B → Result (After W F (Space Event B)) Stop → Begun (Held W F B)
resumed h (Ok after) = Calls (record h { after = after })
resumed h (Err stop) = Says (Stopped stop) h

module _ (l : Loads ℕ) (thread : ℕ) where
  -- the accesses that a thread's memory offers
  unfoldable pub thread_accesses : Accesses (Space Event ℕ) ℕ
  thread_accesses =
      space_accesses plain_operations (stack_start thread)
      (λ seen. pointer_word plain_operations thread ∷ fixed_at l seen)

  abbrev pub word_at : Space Event ℕ → ℕ → Result ℕ Refusal
  word_at space address = read_as number_from (bytes_at thread_accesses space address 8)

  -- ---- the question

  -- the live instance that asks: the one in whose tables the two words lie
  abbrev pub asker : List Event → ℕ → Option Instance
  asker seen address = find (λ x. list_any (has_words address) (l.tables x)) (instances l seen)

  -- a module id and an offset; a descriptor has both in its second word
  abbrev pub asked_by : Instance → Bool → Result (ℕ × ℕ) Refusal → Option Asked
  asked_by x is_descriptor (Err why) = None
  asked_by x false (Ok words) =
      Some (record { asking = x.number; id = words.0; offset = words.1; is_descriptor = false })
  asked_by x true (Ok words) =
      Some (record { asking = x.number; id = words.1 / 2 ^ 32; offset = words.1 % 2 ^ 32; is_descriptor = true })

  abbrev pub asked_of : Space Event ℕ → Bool → ℕ → Option Instance → Option Asked
  asked_of space is_descriptor address None = None
  asked_of space is_descriptor address (Some x) = asked_by x is_descriptor
      (both_reached pair (word_at space address) (word_at space (address + 8)))

  -- %rdi holds the address of the words of `__tls_get_addr`, %rax that of a descriptor
  abbrev pub asked_at : After ℕ Bool (Space Event ℕ) → Option Asked
  asked_at at =
      let is_descriptor = at.state.place == descriptor_place in
      let address = if is_descriptor then at.state.registers.rax else at.state.registers.rdi in
      asked_of at.memory is_descriptor address (asker at.memory.seen address)

  -- ---- the answer

  abbrev pub answer_word : Asked → Instance → ℕ
  answer_word asked x = let address = block_start thread x + asked.offset in
      if asked.is_descriptor then (address + (2 ^ 64 - pointer_of thread)) % 2 ^ 64 else address % 2 ^ 64

  -- a word in %rax, and the return address popped
  abbrev pub answered : Asked → Instance → Runs → Result (After ℕ Bool (Space Event ℕ)) Stop
  answered asked x h =
      answer_of plain_operations thread_accesses (answer_word asked x) h.after.state h.after.memory

  abbrev pub goes_answered : Runs → Result (After ℕ Bool (Space Event ℕ)) Stop → Next Runs
  goes_answered h (Ok after) = Goes (record h { after = after })
  goes_answered h (Err stop) = Ends stop

  abbrev pub found_at_once : Asked → Runs → Option Instance → Next Runs
  found_at_once asked h None = Ends (Address h.after.state.place)
  found_at_once asked h (Some x) = goes_answered h (answered asked x h)

  -- the id of a startup image is answered at once, and any other after a look; if no live instance asks, the access is
  -- refused
  abbrev pub asked_next : Runs → Option Asked → Next Runs
  asked_next h None = Ends (Address h.after.state.place)
  asked_next h (Some asked) = if is_startup_id l asked.id
      then found_at_once asked h (instance_with_id l h.after.memory.seen asked.id)
      else Looks (record h { asked = Some asked })

  abbrev pub thread_next : Runs → Next (After ℕ Bool (Space Event ℕ)) → Next Runs
  thread_next h (Goes at) = Goes (record h { after = at })
  thread_next h (Ends stop) = Ends stop
  thread_next h (Looks at) = asked_next h (asked_at at)

  -- the machine of a thread with its run time
  unfoldable pub thread_steps : Stepping Runs
  thread_steps = let bare = machine plain_operations thread_accesses no_field in record {
    over = λ h. bare.over h.after;
    step = λ h. thread_next h (bare.step h.after);
    spent = λ h. bare.spent h.after;
  }

  -- ---- a look in the middle of a line

  abbrev pub resumed_in : Asked → Runs → Option Instance → Begun Runs
  resumed_in asked h None = Says (Stopped (Address h.after.state.place)) h
  resumed_in asked h (Some x) = let h = reached l thread x h in resumed h (answered asked x h)

  -- the instance that asks may be closed by then; then there is nothing to answer
  abbrev pub resumed_by : List Event → Runs → Option Asked → Begun Runs
  resumed_by seen h None = Calls h
  resumed_by seen h (Some asked) = if is_none (numbered_instance l seen asked.asking)
      then Says (Answered (Fault Unloaded)) h
      else resumed_in asked h (instance_with_id l seen asked.id)

  unfoldable pub resume_line : List Event → Runs → Begun Runs
  resume_line seen h = resumed_by seen (looked l thread seen (record h { asked = None })) h.asked

  -- ---- the machine's lines

  abbrev pub shows : List ℕ → Ending
  shows bytes = Answered (Bytes bytes)

  -- a call's machine takes at most four times `fuel` steps
  unfoldable pub thread_turns : ℕ → Turns Runs Line Event
  thread_turns fuel = record {
    steps = thread_steps;
    fuel = 4 * fuel;
    begin = λ line seen h. begin_line plain_operations l shows thread line seen h;
    resume = λ seen h. resume_line seen h;
  }
