-- What a thread means: its steps, its looks and its lines. The lines, looks, blocks and data are those of the
-- machine's threads, over marked values; the steps also have sequences.
use Rattle.std.specs.Prelude.{ℕ, ◌+◌, ◌-◌, ◌++◌, ◌&&◌, ◌==◌, Bool, true, false, List, ◌∷◌, drop, Option, Some, None}
use Rattle.std.specs.Prelude.{Result, nat_lt, position, replicate, unwrap_or, option_and_then, option_map}
use Rattle.std.specs.Prelude.{if◌then◌else◌}
use Rattle.std.specs.List.{list_any}
use Rattle.std.specs.Option.{option_or, option_map_or}
use Rattle.address_map.specs.Map.{owner_at, stack_start}
use Rattle.guest_arithmetic.specs.declared.cause.Cause.{Cause}
use Rattle.guest_arithmetic.specs.declared.cause.Cause.TheVariants as cause
use Rattle.guest_arithmetic.specs.Cause.{rank_of}
use Rattle.guest_arithmetic.specs.Values.{Operations}
use Rattle.guest_operands.specs.declared.space.Access.TheVariants.{Write}
use Rattle.guest_operands.specs.declared.stop.Stop.{Stop}
use Rattle.guest_operands.specs.declared.stop.Stop.TheVariants.{Unclean}
use Rattle.guest_machine.specs.Access.{Accesses}
use Rattle.guest_machine.specs.Ranges.{grants}
use Rattle.guest_machine.specs.Run.{Next, Goes, Ends, Looks, Stepping, is_look}
use Rattle.guest_machine.specs.Use.{After}
use Rattle.job_meaning.specs.declared.values.Byte.{Byte}
use Rattle.job_meaning.specs.declared.values.Byte.TheVariants.{Value, Hidden, Part}
use Rattle.job_meaning.specs.declared.values.Flag.{Flag}
use Rattle.job_meaning.specs.declared.values.Token.TheVariants.{Base, Descriptor}
use Rattle.job_meaning.specs.declared.values.Word.{Word}
use Rattle.job_meaning.specs.Marked.{marked_operations, values_of}
use Rattle.job_text.specs.declared.thread_lines.Action.{Action}
use Rattle.job_text.specs.declared.thread_lines.Action.TheVariants.{Call, Open, Close, Peek}
use Rattle.loaded_modules.specs.declared.instance.Instance.{Instance}
use Rattle.module_table.specs.declared.events.Event.{Event}
use Rattle.module_table.specs.Past.{startup_count}
use Rattle.transcript_text.specs.declared.outcomes.LineFault.TheVariants.{Unloaded}
use Rattle.transcript_text.specs.declared.outcomes.Outcome.TheVariants.{Bytes, Fault}
use Rattle.thread_blocks.specs.Held.{Held, looked, reached}
use Rattle.thread_blocks.specs.Instances.{block_start, fixed_at, instance_at, instances, numbered_instance}
use Rattle.thread_blocks.specs.Lines.{Line, begin_line}
use Rattle.thread_blocks.specs.MachineTurns.{pointer_word}
use Rattle.thread_blocks.specs.Spaces.{Space, space_accesses, stack_range}
use Rattle.thread_blocks.specs.Turns.{Answered, Begun, Calls, Ending, Says, Stopped, Turns}
use Rattle.whole_meaning.specs.declared.marks.Mark.{Mark}
use Rattle.whole_meaning.specs.declared.marks.Mark.TheVariants.{Usual}
use Rattle.whole_meaning.specs.Meanings.{Meaning}
use Rattle.whole_meaning.specs.Running.{meaning}
use Rattle.whole_meaning.specs.Sequences.{Stack, asks, looks_first, sequence_result}
use Rattle.whole_meaning.specs.declared.sequences.Sequence.{Sequence}
use Rattle.thread_blocks.specs.RunTime.{resumed}

-- the operations of marked values; an address tells whose code lies there
abbrev pub ops : Operations Word Flag Byte
ops = marked_operations owner_at

-- a thread's memory, and what a thread holds
abbrev pub Memory : Type 0
Memory = Space Event Byte

abbrev pub Meant : Type 0
Meant = Held Word Flag Byte

-- a stack whose lowest bytes are unknown
abbrev pub hidden_below : ℕ → List Byte → List Byte
hidden_below count stack = replicate count Hidden ++ drop count stack

module _ (m : Meaning) (thread : ℕ) where
  -- ** memory

  -- the accesses that a thread's memory offers
  unfoldable pub meant_accesses : Accesses Memory Byte
  meant_accesses = space_accesses ops (stack_start thread)
      (λ seen. pointer_word ops thread ∷ fixed_at m.loads seen)

  -- its stack
  abbrev pub meant_stack : Stack Memory
  meant_stack = record {
    holds = λ space place. grants Write (stack_range (stack_start thread) space.stack) place;
    forget = λ space place.
        record space { stack = hidden_below (place - stack_start thread) space.stack };
  }

  -- ** code

  -- the live instance whose code lies at an address
  abbrev pub code_owner : List Event → ℕ → Option Instance
  code_owner seen place = numbered_instance m.loads seen (owner_at place)

  -- the mark of an address of code, after the events that the thread has seen
  abbrev pub meant_mark : Memory → ℕ → Mark
  meant_mark space place = option_map_or (λ x. m.mark x place) (code_owner space.seen place) Usual

  -- the addresses of the run time, and the rooms of live instances, are the linker's own
  abbrev pub meant_shut : Memory → ℕ → Bool
  meant_shut space place =
      if is_look place then true else list_any (λ x. m.room x place) (instances m.loads space.seen)

  -- ** sequences

  abbrev pub sequence_at : List Event → ℕ → Option Sequence
  sequence_at seen place = option_and_then (λ x. m.sequence x place) (code_owner seen place)

  -- an instance that is not a startup one
  abbrev pub came_late : ℕ → Bool
  came_late number = nat_lt (startup_count m.loads.infos) number

  -- the step of a sequence, without a look, by the thread's block of the variable's instance
  abbrev pub sequence_does : Sequence → After Word Flag Memory → Result (After Word Flag Memory) Stop
  sequence_does s at = sequence_result meant_stack s thread
      (option_map_or (block_start thread) (numbered_instance m.loads at.memory.seen s.target) 0) at.state at.memory

  -- a sequence that asks the run time for a variable of an instance that is not a startup one looks first
  abbrev pub sequence_next : After Word Flag Memory → Sequence → Next (After Word Flag Memory)
  sequence_next at s = looks_first (asks s.form && came_late s.target) at (sequence_does s at)

  abbrev pub meant_sequence : After Word Flag Memory → Option (Next (After Word Flag Memory))
  meant_sequence at = option_map (sequence_next at) (sequence_at at.memory.seen at.state.place)

  -- ** steps

  abbrev pub held_next : Meant → Next (After Word Flag Memory) → Next Meant
  held_next h (Goes at) = Goes (record h { after = at })
  held_next h (Ends stop) = Ends stop
  held_next h (Looks at) = Looks (record h { after = at })

  unfoldable pub meant_steps : Stepping Meant
  meant_steps = let bare = meaning ops meant_accesses meant_mark meant_shut meant_sequence in record {
    over = λ h. bare.over h.after;
    step = λ h. held_next h (bare.step h.after);
    spent = λ h. bare.spent h.after;
  }

  -- ** a look in the middle of a line: a sequence asks for a variable

  -- the thread reaches its block of the instance, and does the sequence
  abbrev pub resumed_by : Meant → Sequence → Option Instance → Begun Meant
  resumed_by h s None = Calls h
  resumed_by h s (Some x) = let h = reached m.loads thread x h in resumed h (sequence_does s h.after)

  abbrev pub resumed_at : Meant → Option Sequence → Begun Meant
  resumed_at h None = Calls h
  resumed_at h (Some s) = resumed_by h s (numbered_instance m.loads h.after.memory.seen s.target)

  -- if the instance whose code asks is closed, nothing is found
  abbrev pub resumed_for : Meant → Option Instance → Begun Meant
  resumed_for h None = Says (Answered (Fault Unloaded)) h
  resumed_for h (Some x) = resumed_at h (sequence_at h.after.memory.seen h.after.state.place)

  unfoldable pub resume_meant : List Event → Meant → Begun Meant
  resume_meant seen h =
      let h = looked m.loads thread seen h in resumed_for h (code_owner seen h.after.state.place)

  -- ** bytes that a line shows

  -- why a byte is not a number
  abbrev pub byte_cause : Byte → Option Cause
  byte_cause (Value number) = None
  byte_cause Hidden = Some cause.Undefined
  byte_cause (Part (Base block) k) = Some cause.Base
  byte_cause (Part (Descriptor instance symbol) k) = Some cause.Descriptor

  abbrev pub is_for : Cause → Option Cause → Bool
  is_for why None = false
  is_for why (Some other) = rank_of why == rank_of other

  -- the lowest byte that is not a number for this cause
  abbrev pub unclean_for : ℕ → List Byte → Cause → Option Stop
  unclean_for address bytes why =
      option_map (λ k. Unclean (address + k) why) (position (λ byte. is_for why (byte_cause byte)) bytes)

  -- the first of the causes, whichever byte comes first
  abbrev pub unclean_bytes : ℕ → List Byte → Stop
  unclean_bytes address bytes = unwrap_or (option_or (unclean_for address bytes cause.Undefined)
      (option_or (unclean_for address bytes cause.Base) (unclean_for address bytes cause.Descriptor)))
      (Unclean address cause.Undefined)

  -- the bytes from an address on: their numbers, if each has one
  abbrev pub shown_as : ℕ → List Byte → Option (List ℕ) → Ending
  shown_as address bytes (Some numbers) = Answered (Bytes numbers)
  shown_as address bytes None = Stopped (unclean_bytes address bytes)

  -- ** lines

  -- the address of a variable in the thread's block of an image's live instance
  abbrev pub variable_start : Option Instance → Option ℕ → ℕ
  variable_start (Some x) (Some offset) = block_start thread x + offset
  variable_start x offset = 0

  -- the address of the bytes that a line shows
  abbrev pub shown_at : ℕ → List Event → Action → ℕ
  shown_at image seen (Call symbol a b c) = 0
  shown_at image seen Open = 0
  shown_at image seen Close = 0
  shown_at image seen (Peek symbol size) =
      variable_start (instance_at m.loads seen image) (m.loads.variable image symbol)

  abbrev pub meant_show : Line → List Event → List Byte → Ending
  meant_show line seen bytes = shown_as (shown_at line.told.image seen line.told.action) bytes (values_of bytes)

  -- a line's first look, as in the machine's lines
  unfoldable pub begin_meant : Line → List Event → Meant → Begun Meant
  begin_meant line seen h = begin_line ops m.loads (meant_show line seen) thread line seen h

  -- a call has at most `fuel` steps
  unfoldable pub meant_turns : ℕ → Turns Meant Line Event
  meant_turns fuel = record {
    steps = meant_steps;
    fuel = fuel;
    begin = λ line seen h. begin_meant line seen h;
    resume = λ seen h. resume_meant seen h;
  }
