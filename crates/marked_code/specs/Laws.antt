-- The laws of code with fields in it. The first two hold for any memories and any relation of them; a clause states
-- them for threads' memories, and for the relations that a test decides.
use Rattle.std.specs.Prelude.{◌≡◌, ◌<◌, ℕ, Bool, true, false, List, Some, None, Ok}
use Rattle.amd64_subset.specs.declared.instr.Decoded.{Decoded}
use Rattle.amd64_subset.specs.declared.instr.Operation.{Operation}
use Rattle.amd64_subset.specs.declared.operand.Memory.{Memory as Operand}
use Rattle.amd64_subset.specs.Decoding.{decoded}
use Rattle.guest_arithmetic.specs.Plain.{plain_operations}
use Rattle.guest_operands.specs.declared.frame.Frame.{Frame}
use Rattle.guest_operands.specs.declared.state.State.{State}
use Rattle.guest_operands.specs.Operand.{address_of}
use Rattle.guest_machine.specs.Access.{Accesses, load_of, store_of}
use Rattle.guest_operands.specs.Closed.{closed}
use Rattle.guest_machine.specs.Follow.{Follows, StayRelated, Reaches, SameAfter, SameState}
use Rattle.guest_machine.specs.Step.{act, step_of}
use Rattle.job_meaning.specs.declared.values.Byte.{Byte}
use Rattle.job_meaning.specs.declared.values.Flag.{Flag}
use Rattle.job_meaning.specs.declared.values.Word.{Word}
use Rattle.module_table.specs.declared.events.Event.{Event}
use Rattle.thread_blocks.specs.Spaces.{Space}
use Rattle.whole_meaning.specs.declared.marks.Mark.{Mark}
use Rattle.whole_meaning.specs.Fields.{is_from_next, read_in}
use Rattle.whole_meaning.specs.Reading.{marked_step}
use Rattle.whole_meaning.specs.Threads.{Memory, ops}
use Rattle.tied_meaning.specs.Codes.{SameCode}
use Rattle.tied_meaning.specs.Numbers.{Setting, SameField, SameWord, alike}

-- Same: the relation of memories
module _ {M M' : Type 0} (Same : M → M' → Type 0) where
  -- one step where no sequence begins. shut: the addresses that are the linker's own, none of which is one of the
  -- first eight, where the word of an address field is lent
  abbrev pub StepsFollow : Type 0
  StepsFollow = (g : Setting) (acc : Accesses M Byte) (acc' : Accesses M' ℕ) (shut : M → ℕ → Bool) (mark : M → ℕ → Mark)
      → StayRelated (alike g) (closed shut acc) acc' Same
      → (s : State Word Flag) (s' : State ℕ Bool) (m : M) (m' : M')
      → SameState (alike g) s s' → Same m m' → ((k : ℕ) → k < 8 → shut m k ≡ false)
      → SameCode (alike g) ops plain_operations (mark m) (shut m) acc acc' m m'
      → Follows (SameAfter (alike g) Same) (marked_step ops acc (mark m) (shut m) s m)
      (step_of plain_operations acc' (λ place. false) s' m')

  -- one instruction that reads 64 bits of memory and does not write them: if the one address and the other hold
  -- related words, it does the same. It may push, so stores have to be related too. f, f': its frames
  abbrev pub ReadsAlike : Type 0
  ReadsAlike = (g : Setting) (acc : Accesses M Byte) (acc' : Accesses M' ℕ) (f f' : Frame) → f.next ≡ f'.next
      → SameField g f.immediate_field f'.immediate_field f.immediate f'.immediate
      → (s : State Word Flag) (s' : State ℕ Bool) → SameState (alike g) s s' → (m : M) (m' : M') → Same m m'
      → ((place : ℕ) (w : Word) (w' : ℕ) → SameWord g w w'
      → Reaches Same (store_of ops acc m place 8 w) (store_of plain_operations acc' m' place 8 w'))
      → (operand : Operand) (a a' : ℕ) → address_of ops f s operand ≡ Ok a
      → address_of plain_operations f' s' operand ≡ Ok a'
      → Reaches (SameWord g) (load_of ops acc m a 8) (load_of plain_operations acc' m' a' 8)
      → (operation : Operation) → read_in operation ≡ Some operand
      → Follows (SameAfter (alike g) Same) (act ops acc f operation s m) (act plain_operations acc' f' operation s' m')

-- memories of a thread that a test relates
abbrev pub TestedAlike : (Memory → Space Event ℕ → Bool) → Memory → Space Event ℕ → Type 0
TestedAlike test m m' = test m m' ≡ true

abbrev pub MarkedStepsFollow : Type 0
MarkedStepsFollow = (test : Memory → Space Event ℕ → Bool) → StepsFollow (TestedAlike test)

abbrev pub ReadsFollow : Type 0
ReadsFollow = (test : Memory → Space Event ℕ → Bool) → ReadsAlike (TestedAlike test)

-- an operand relative to the next instruction, with its displacement in a field, has no index
abbrev pub NextHasNoIndex : Type 0
NextHasNoIndex = (bytes : List ℕ) (d : Decoded) (at : ℕ) (operand : Operand) → decoded bytes ≡ Some d → d.disp ≡ Some at
    → read_in d.instr.operation ≡ Some operand → is_from_next operand.base ≡ true → operand.index ≡ None
