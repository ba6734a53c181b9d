-- A sequence that calls the run time: where the machine is once it has called.
use Rattle.std.proofs.Common.{◌≡◌, ◌∙◌, ◌-◌, ◌^◌, ◌<◌, ◌≤◌, ℕ, Bool, List, length, Option, Ok, refl, arith}
use Rattle.address_map.specs.Map.{stack_start}
use Rattle.guest_operands.specs.declared.state.State.{State}
use Rattle.guest_machine.specs.Follow.{SameState}
use Rattle.guest_machine.specs.Use.{left, plus}
use Rattle.module_table.specs.declared.events.Event.{Event}
use Rattle.sequence_forms.specs.declared.forms.Form.TheVariants.{DescCall}
use Rattle.thread_blocks.specs.declared.asked.Asked.{Asked}
use Rattle.thread_blocks.specs.Instances.{Loads}
use Rattle.thread_blocks.specs.RunTime.{Runs}
use Rattle.thread_blocks.specs.Spaces.{Space}
use Rattle.whole_meaning.specs.declared.sequences.Sequence.{Sequence}
use Rattle.whole_meaning.specs.Meanings.{Meaning}
use Rattle.whole_meaning.specs.Sequences.{descriptor_use, stack_use}
use Rattle.whole_meaning.specs.Threads.{Meant, meant_stack}
use Rattle.tied_meaning.specs.Numbers.{Setting, alike}
use Rattle.tied_meaning.specs.Threads.{HasCalled, InCall, called_state}
use Rattle.tied_memory.specs.Places.{AreInPlace}
use Rattle.tied_memory.proofs.Bytes.{digits}
use Rattle.site_steps.proofs.Called.{stack_room}
use Rattle.site_steps.proofs.Stack.{HasRoom, all_length, hidden_all, hidden_same, popped_there, with_word_below}
use Rattle.site_steps.proofs.Steps.{in_place}

abbrev pub sp : Runs → ℕ
sp h' = h'.after.state.registers.rsp

-- the meaning's tests of the stack are passed: there is room for a return address below %rsp
abbrev pub HasUse : Meaning → ℕ → Meant → Runs → Type 0
HasUse m thread h h' = stack_use (meant_stack m thread) h.after.state h.after.memory ≡ Ok (sp h')

-- the machine where the run time is asked: the return address is below %rsp, and %rdi may have changed
abbrev pub run_memory : ℕ → Runs → Sequence → Space Event ℕ
run_memory thread h' s = with_word_below thread h'.after.memory (sp h') s.next

abbrev pub run_state : Runs → ℕ → ℕ → State ℕ Bool
run_state h' rdi place = record h'.after.state {
  registers = record h'.after.state.registers { rdi = rdi; rsp = plus (sp h') (2 ^ 64 - 8) };
  place = place;
}

abbrev pub run_at : ℕ → Runs → Sequence → ℕ → ℕ → Option Asked → Runs
run_at thread h' s rdi place o =
    record { after = left (run_state h' rdi place) (run_memory thread h' s); owners = h'.owners; asked = o }

-- with nothing asked for yet that was not before
abbrev pub asking_at : ℕ → Runs → Sequence → ℕ → ℕ → Runs
asking_at thread h' s rdi place = run_at thread h' s rdi place h'.asked

module _ {g : Setting} {m : Meaning} {q : Loads ℕ} {history : List Event} {thread : ℕ} {h : Meant} {h' : Runs}
    (call : InCall g m q history thread h h') where
  pub run_in_place : (s : Sequence) → AreInPlace g q history thread h'.owners (run_memory thread h' s)
  run_in_place s =
      let sound = in_place call in
      record {
        placed = sound.placed;
        paired = sound.paired;
        front = sound.front;
        deep = all_length h'.after.memory.stack (sp h' - 8 - stack_start thread) (digits s.next) ∙ sound.deep;
      }

  module _ (low : 1 ≤ thread) (high : thread ≤ 64) (used : HasUse m thread h h') where
    pub room_of : HasRoom thread (length h'.after.memory.stack) (sp h') (sp h')
    room_of =
        let room = stack_room call low high used in
        let sound = in_place call in
        record { same = refl; under = room.under; inside = omega (arith, room.inside, call.memory.deep, sound.deep) }

    -- what the meaning knows below %rsp is hidden
    pub hidden_fits : sp h' - stack_start thread ≤ length h.after.memory.stack
    hidden_fits =
        let room = room_of in
        let sound = in_place call in
        omega (arith, room.inside, call.memory.deep, sound.deep)

    -- all but the answer is there
    pub has_called : (s : Sequence) → (s.form ≡ DescCall → descriptor_use s h.after.state.registers.rax ≡ Ok tt)
        → s.next < 2 ^ 64 → (rdi place : ℕ)
        → SameState (alike g) (called_state s.form h.after.state s.next)
        (record h'.after.state { registers = record h'.after.state.registers { rdi = rdi }; place = s.next })
        → (o : Option Asked)
        → HasCalled g m q history thread s (sp h') h (run_at thread h' s rdi place o)
    has_called s descriptor small rdi place state o =
        let room = room_of in
        record {
          room = used;
          descriptor = descriptor;
          state = state;
          below = refl;
          pointer = call.pointer;
          bytes = hidden_all g (sp h' - stack_start thread) h.after.memory.stack h'.after.memory.stack
              (sp h' - 8 - stack_start thread) (digits s.next) hidden_fits (omega (arith, room.under))
              (hidden_same g (sp h' - stack_start thread) h.after.memory.stack h'.after.memory.stack hidden_fits
              call.memory.space.stack);
          deep = (run_in_place s).deep;
          back = popped_there q thread low high h'.after.memory s.next room (in_place call).deep small;
        }
