-- A thread of the meaning and the same thread of the machine: how they are related between two lines, in a call, and
-- while they wait for a look in the middle of one.
use Rattle.std.specs.Prelude.{◌≡◌, ◌-◌, ◌%◌, ◌^◌, ◌&&◌, ℕ, Bool, true, false, List, All, Some, None, Ok, length}
use Rattle.address_map.specs.Map.{pointer_of, stack_size, stack_start}
use Rattle.guest_arithmetic.specs.Plain.{plain_operations}
use Rattle.guest_operands.specs.declared.state.State.{State}
use Rattle.guest_machine.specs.Access.{load_of}
use Rattle.guest_machine.specs.Follow.{All2, SameState}
use Rattle.guest_machine.specs.Ranges.{Range}
use Rattle.guest_machine.specs.State.{at_place, with_stack}
use Rattle.guest_machine.specs.Use.{plus}
use Rattle.job_meaning.specs.declared.values.Byte.{Byte}
use Rattle.job_meaning.specs.declared.values.Flag.{Flag}
use Rattle.job_meaning.specs.declared.values.Word.{Word}
use Rattle.job_meaning.specs.declared.values.Word.TheVariants.{Undefined}
use Rattle.loaded_modules.specs.declared.instance.Instance.{Instance}
use Rattle.module_table.specs.declared.events.Event.{Event}
use Rattle.sequence_forms.specs.declared.forms.Form.{Form}
use Rattle.sequence_forms.specs.declared.forms.Form.TheVariants.{DescCall}
use Rattle.thread_blocks.specs.declared.asked.Asked.{Asked}
use Rattle.thread_blocks.specs.Held.{Kind, Block, Data, Owned, Owner, is_block, owned, owned_by}
use Rattle.thread_blocks.specs.Instances.{Loads, block_range}
use Rattle.thread_blocks.specs.RunTime.{Runs, thread_accesses}
use Rattle.thread_blocks.specs.Spaces.{Space}
use Rattle.thread_blocks.specs.SpaceLaws.{SameRange, SameSpace}
use Rattle.thread_blocks.specs.Turns.{IsFront}
use Rattle.whole_meaning.specs.declared.sequences.Sequence.{Sequence}
use Rattle.whole_meaning.specs.Meanings.{Meaning}
use Rattle.whole_meaning.specs.Sequences.{after_call, asks, descriptor_use, stack_use, without_flags}
use Rattle.whole_meaning.specs.Threads.{Meant, came_late, hidden_below, meant_stack, sequence_at}
use Rattle.tied_meaning.specs.Numbers.{Setting, SameByte, alike}
use Rattle.tied_meaning.specs.Sites.{IsIdFor}
use Rattle.guest_machine.specs.Machine.{with_answer}

-- ** written ranges

-- a range that threads write: the same owner and address, related byte by byte
pub record SameOwned (g : Setting) (o : Owned Byte) (o' : Owned ℕ) : Type 0 where
  pub owner : o'.owner ≡ o.owner
  pub range : SameRange (SameByte g) o.range o'.range

-- the range has the instance's address and size, whatever bytes it holds
abbrev pub IsRangeOf : Loads ℕ → ℕ → Instance → Kind → Range ℕ → Type 0
IsRangeOf q thread x Block range =
    (range ≡ block_range thread x range.bytes) × (length range.bytes ≡ length (q.block x))
IsRangeOf q thread x Data range = (whole : Range ℕ) × ((q.shared x ≡ Some whole)
    × ((range ≡ record whole { bytes = range.bytes }) × (length range.bytes ≡ length whole.bytes)))

-- the same for a range that a thread holds, of the instance with its owner's number. Before a look a thread may hold
-- data of an instance that it has not seen, so the events that it saw don't matter
abbrev pub IsPlaced : Setting → Loads ℕ → ℕ → Owned ℕ → Type 0
IsPlaced g q thread o =
    (x : Instance) × ((g.known o.owner.instance ≡ Some x) × IsRangeOf q thread x o.owner.kind o.range)

-- the data of a job between two turns; the address of data is the same for every thread, so any thread will do
pub record SameData (g : Setting) (q : Loads ℕ) (xs : List (Owned Byte)) (ys : List (Owned ℕ)) : Type 0 where
  pub all : All2 (SameOwned g) xs ys
  pub placed : All (IsPlaced g q 1) ys
  pub are : All (λ (o : Owned ℕ). is_block o.owner.kind ≡ false) ys

-- ** a sequence that has called, before the answer

-- whether the run time is called by a descriptor
abbrev pub is_descriptor_call : Form → Bool
is_descriptor_call DescCall = true
is_descriptor_call form = false

-- the meaning's state then: all that the sequence leaves, except the answer
abbrev pub called_state : Form → State Word Flag → ℕ → State Word Flag
called_state DescCall state next = at_place (without_flags (with_answer state Undefined)) next
called_state form state next = at_place (with_answer (after_call state) Undefined) next

-- history: the events that the job ends with. thread: one of the first 64; a much later one has its thread pointer
-- past 2^64
module _ (g : Setting) (m : Meaning) (q : Loads ℕ) (history : List Event) (thread : ℕ) where
  -- ** threads

  -- two memories after the same events, with written ranges of these owners
  pub record SameMemory (owners : List Owner) (seen : List Event) (s : Space Event Byte) (s' : Space Event ℕ) : Type 0
    where
      pub space : SameSpace (SameByte g) s s'
      pub events : s.seen ≡ seen
      pub placed : All (IsPlaced g q thread) (owned owners s'.own)
      pub paired : length owners ≡ length s'.own
      pub deep : length s.stack ≡ stack_size

  -- between two lines: registers and stack don't matter, since the next call begins with its own
  pub record AtRest (h : Meant) (h' : Runs) : Type 0 where
    pub owners : h'.owners ≡ h.owners
    pub own : All2 (SameRange (SameByte g)) h.after.memory.own h'.after.memory.own
    pub placed : All (IsPlaced g q thread) (owned_by h')
    pub paired : length h'.owners ≡ length h'.after.memory.own
    pub seen : h'.after.memory.seen ≡ h.after.memory.seen
    pub front : IsFront h.after.memory.seen history
    pub asked : h'.asked ≡ None

  -- in a call, at an address where both begin a step
  pub record InCall (h : Meant) (h' : Runs) : Type 0 where
    pub state : SameState (alike g) h.after.state h'.after.state
    pub pointer : h.after.state.thread_pointer ≡ pointer_of thread
    pub memory : SameMemory h.owners h.after.memory.seen h.after.memory h'.after.memory
    pub owners : h'.owners ≡ h.owners
    pub front : IsFront h.after.memory.seen history
    pub asked : h'.asked ≡ None

  -- ** at a look in the middle of a line: the meaning is before the sequence, and the machine has called the run time

  -- the sequence's tests are passed, and the machine is at the sequence's end, except for the answer and the return
  -- address that is still on its stack. stack: %rsp before the call
  pub record HasCalled (s : Sequence) (stack : ℕ) (h : Meant) (h' : Runs) : Type 0 where
    pub room : stack_use (meant_stack m thread) h.after.state h.after.memory ≡ Ok stack
    pub descriptor : s.form ≡ DescCall → descriptor_use s h.after.state.registers.rax ≡ Ok tt
    pub state : SameState (alike g) (called_state s.form h.after.state s.next)
        (at_place (with_stack h'.after.state stack) s.next)
    pub below : h'.after.state.registers.rsp ≡ plus stack (2 ^ 64 - 8)
    pub pointer : h.after.state.thread_pointer ≡ pointer_of thread
    pub bytes : All2 (SameByte g) (hidden_below (stack - stack_start thread) h.after.memory.stack) h'.after.memory.stack
    pub deep : length h'.after.memory.stack ≡ stack_size
    -- the return address is popped from any memory with this stack: blocks and data may change meanwhile
    pub back : (memory : Space Event ℕ) → memory.stack ≡ h'.after.memory.stack
        → load_of plain_operations (thread_accesses q thread) memory (plus stack (2 ^ 64 - 8)) 8 ≡ Ok s.next

  -- the machine asks for what the sequence means
  pub record Asks (s : Sequence) (asked : Asked) : Type 0 where
    pub asking : asked.asking ≡ s.instance
    pub id : (x : Instance) → g.known s.instance ≡ Some x → IsIdFor q x s asked.id
    pub offset : asked.offset ≡ s.offset % 2 ^ 64
    pub kind : asked.is_descriptor ≡ is_descriptor_call s.form

  -- both wait: the meaning before a sequence of an instance that is not a startup one, the machine after its call
  pub record Waiting (h : Meant) (h' : Runs) : Type 0 where
    pub owners : h'.owners ≡ h.owners
    pub own : All2 (SameRange (SameByte g)) h.after.memory.own h'.after.memory.own
    pub placed : All (IsPlaced g q thread) (owned_by h')
    pub paired : length h'.owners ≡ length h'.after.memory.own
    pub seen : h'.after.memory.seen ≡ h.after.memory.seen
    pub front : IsFront h.after.memory.seen history
    pub s : Sequence
    pub begins : sequence_at m thread h.after.memory.seen h.after.state.place ≡ Some s
    pub late : (asks s.form && came_late m thread s.target) ≡ true
    pub stack : ℕ
    pub called : HasCalled s stack h h'
    pub asked : Asked
    pub is : h'.asked ≡ Some asked
    pub asks_for : Asks s asked
