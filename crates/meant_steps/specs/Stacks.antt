-- A thread's stack from its lowest address on, and what a sequence does to it.
use Rattle.std.specs.Prelude.{◌≡◌, ℕ, ◌-◌, ◌≤◌, length, Option, Some, None, Result, Ok, Err}
use Rattle.address_map.specs.Map.{stack_start}
use Rattle.guest_operands.specs.declared.space.Access.TheVariants.{Write}
use Rattle.guest_operands.specs.declared.stop.Stop.{Stop}
use Rattle.guest_operands.specs.Ranges.{grants}
use Rattle.thread_blocks.specs.Spaces.{stack_range}
use Rattle.whole_meaning.specs.Meanings.{Meaning}
use Rattle.whole_meaning.specs.Sequences.{Stack}
use Rattle.whole_meaning.specs.Threads.{Memory, hidden_below, meant_stack}

-- the stack that begins at an address
abbrev pub stack_from : ℕ → Stack Memory
stack_from start = record {
  holds = λ space place. grants Write (stack_range start space.stack) place;
  forget = λ space place. record space { stack = hidden_below (place - start) space.stack };
}

-- no byte past the stack's end is to be forgotten
abbrev pub IsForgettable : ℕ → Memory → ℕ → Type 0
IsForgettable start space place = place - start ≤ length space.stack

-- a thread's stack in the meaning is the stack that begins at the thread's stack address
abbrev pub StacksAgree : Type 0
StacksAgree = (m : Meaning) (thread : ℕ) → meant_stack m thread ≡ stack_from (stack_start thread)

-- the stop of a step, if it stops
abbrev pub stop_of : {A : Type 0} → Result A Stop → Option Stop
stop_of (Ok after) = None
stop_of (Err stop) = Some stop
