-- The changes of a thread's step, in the machine and in the meaning: the same step over a memory that notes its
-- stores.
use Rattle.std.specs.Prelude.{ℕ, List, [], Option, Some, None}
use Rattle.address_map.specs.Map.{stack_start}
use Rattle.guest_arithmetic.specs.Plain.{plain_operations}
use Rattle.guest_machine.specs.Run.{next_of, machine}
use Rattle.guest_machine.specs.Use.{left}
use Rattle.job_meaning.specs.declared.values.Byte.{Byte}
use Rattle.thread_blocks.specs.Instances.{Loads}
use Rattle.thread_blocks.specs.RunTime.{Runs, thread_accesses}
use Rattle.thread_blocks.specs.Spaces.{no_field}
use Rattle.whole_meaning.specs.declared.sequences.Sequence.{Sequence}
use Rattle.whole_meaning.specs.Meanings.{Meaning}
use Rattle.whole_meaning.specs.Reading.{plain_step}
use Rattle.whole_meaning.specs.Threads.{Meant, meant_accesses, meant_mark, ops, sequence_at}
use Rattle.shared_data.specs.Changes.{Change, noted_by, noting, unchanged}

-- ** the machine

-- an answer of the run time stores nothing
abbrev pub machine_changes : Loads ℕ → ℕ → Runs → List (Change ℕ)
machine_changes l thread h = noted_by
    ((machine plain_operations (noting (stack_start thread) h.owners (thread_accesses l thread)) no_field).step
    (left h.after.state (unchanged h.after.memory)))

-- ** the meaning

module _ (m : Meaning) (thread : ℕ) where
  -- a sequence stores nothing; no run makes a step that is refused (`run_told`)
  abbrev pub changes_at : Option Sequence → Meant → List (Change Byte)
  changes_at (Some s) h = []
  changes_at None h = noted_by (next_of (plain_step ops
      (noting (stack_start thread) h.owners (meant_accesses m thread))
      (meant_mark m thread h.after.memory) h.after.state
      (unchanged h.after.memory)))

  abbrev pub meant_changes : Meant → List (Change Byte)
  meant_changes h = changes_at (sequence_at m thread h.after.memory.seen h.after.state.place) h
