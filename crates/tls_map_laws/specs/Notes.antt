-- Noting changes nothing: what a thread does is read off from its own steps.
use Rattle.std.specs.Prelude.{◌≡◌, ℕ, Bool}
use Rattle.guest_arithmetic.specs.Plain.{plain_operations}
use Rattle.guest_machine.specs.Run.{machine}
use Rattle.guest_machine.specs.Use.{After}
use Rattle.guest_operands.specs.declared.state.State.{State}
use Rattle.job_meaning.specs.declared.values.Flag.{Flag}
use Rattle.job_meaning.specs.declared.values.Word.{Word}
use Rattle.thread_blocks.specs.Instances.{Loads}
use Rattle.thread_blocks.specs.RunTime.{thread_accesses}
use Rattle.thread_blocks.specs.Spaces.{next_image, no_field}
use Rattle.thread_blocks.specs.SpaceLaws.{after_of, mapped}
use Rattle.whole_meaning.specs.declared.marks.Mark.{Mark}
use Rattle.whole_meaning.specs.Meanings.{Meaning}
use Rattle.whole_meaning.specs.Reading.{plain_step}
use Rattle.whole_meaning.specs.Threads.{meant_accesses, ops}
use Rattle.tls_map_laws.specs.Acts.{Noted, noting}

-- a step over a memory that notes its stores is the machine's step
abbrev pub NotesFollow : Type 0
NotesFollow = (l : Loads ℕ) (thread : ℕ) (at : After ℕ Bool (Noted l thread))
    → (machine plain_operations (thread_accesses l thread) no_field).step (after_of (λ noted. noted.space) at)
    ≡ next_image (after_of (λ noted. noted.space))
    ((machine plain_operations (noting l thread (thread_accesses l thread)) no_field).step at)

-- an instruction of the meaning over such a memory is that instruction
abbrev pub NotesFollowMeaning : Type 0
NotesFollowMeaning = (m : Meaning) (thread : ℕ) (mark : ℕ → Mark) (state : State Word Flag)
    (noted : Noted m.loads thread)
    → plain_step ops (meant_accesses m thread) mark state noted.space
    ≡ mapped (λ noted. noted.space) (plain_step ops (noting m.loads thread (meant_accesses m thread)) mark state noted)
