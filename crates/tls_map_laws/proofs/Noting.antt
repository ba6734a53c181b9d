-- Noting changes nothing: a step over a memory that notes its stores is the step.
use Rattle.std.proofs.Common.{◌≡◌, ℕ, zero, suc, Bool, Option, Some, None, Result, refl, ap}
use Rattle.amd64_subset.specs.declared.instr.Decoded.{Decoded}
use Rattle.guest_arithmetic.specs.declared.cause.Cause.{Cause}
use Rattle.guest_operands.specs.declared.state.State.{State}
use Rattle.guest_operands.specs.declared.stop.Stop.{Stop}
use Rattle.guest_machine.specs.Access.{Accesses, code_at, code_then, fetch_of, next_place}
use Rattle.guest_machine.specs.Run.{machine}
use Rattle.guest_machine.specs.Use.{After}
use Rattle.job_meaning.specs.declared.values.Byte.{Byte}
use Rattle.job_meaning.specs.declared.values.Flag.{Flag}
use Rattle.job_meaning.specs.declared.values.Word.{Word}
use Rattle.module_table.specs.declared.events.Event.{Event}
use Rattle.thread_blocks.specs.Spaces.{Space, next_image, no_field}
use Rattle.thread_blocks.specs.SpaceLaws.{IsImage, mapped, after_of}
use Rattle.thread_blocks.proofs.Image.{act_image, machine_image}
use Rattle.whole_meaning.specs.declared.marks.Mark.{Mark}
use Rattle.whole_meaning.specs.Fields.{address_at, lent, lent_frame, marked_frame}
use Rattle.whole_meaning.specs.Meanings.{Meaning}
use Rattle.whole_meaning.specs.Reading.{done, plain_step}
use Rattle.whole_meaning.specs.Threads.{Memory, meant_accesses, ops}
use Rattle.thread_blocks.specs.Instances.{Loads}
use Rattle.tls_map_laws.specs.Acts.{Noted, noting}
use Rattle.guest_arithmetic.specs.Plain.{plain_operations}
use Rattle.thread_blocks.specs.RunTime.{thread_accesses}
use Rattle.tls_map_laws.specs.Notes.{NotesFollow, NotesFollowMeaning}

-- ** the machine

module _ (l : Loads ℕ) (thread : ℕ) where
  abbrev held_accesses : Accesses (Space Event ℕ) ℕ
  held_accesses = thread_accesses l thread

  noting_image : IsImage (noting l thread held_accesses) held_accesses (λ noted. noted.space)
  noting_image = record {
    byte = λ noted place. refl;
    writes = λ noted place. refl;
    put = λ noted place byte. refl;
    code = λ noted place. refl;
  }

  pub follows : (at : After ℕ Bool (Noted l thread))
      → (machine plain_operations held_accesses no_field).step (after_of (λ noted. noted.space) at)
      ≡ next_image (after_of (λ noted. noted.space))
      ((machine plain_operations (noting l thread held_accesses) no_field).step at)
  follows at =
      (machine_image plain_operations (noting l thread held_accesses) held_accesses (λ noted. noted.space) noting_image
      no_field no_field (λ m. refl)).step at

-- the law
pub notes_follow : NotesFollow
notes_follow l thread at = follows l thread at

-- ** the meaning

module _ (m : Meaning) (thread : ℕ) where
  abbrev NotedAt : Type 0
  NotedAt = After Word Flag (Noted m.loads thread)

  abbrev acc : Accesses Memory Byte
  acc = meant_accesses m thread

  abbrev noter : Accesses (Noted m.loads thread) Byte
  noter = noting m.loads thread acc

  abbrev space_at : Result NotedAt Stop → Result (After Word Flag Memory) Stop
  space_at result = mapped (λ noted. noted.space) result

  code_noted : (size : ℕ) (noted : Noted m.loads thread) (place : ℕ)
      → code_at noter noted place size ≡ code_at acc noted.space place size
  code_noted zero noted place = refl
  code_noted (suc size) noted place =
      ap (code_then (acc.code noted.space place)) (code_noted size noted (next_place place))

  fetch_noted : (noted : Noted m.loads thread) (place : ℕ) → fetch_of noter noted place ≡ fetch_of acc noted.space place
  unfolding fetch_of
  fetch_noted noted place = code_noted 15 noted place

  lent_space : (number : Option ℕ) → IsImage (lent ops noter number) (lent ops acc number) (λ noted. noted.space)
  lent_space None =
      record { byte = λ p place. refl; writes = λ p place. refl; put = λ p place byte. refl; code = λ p place. refl }
  lent_space (Some number) =
      record { byte = λ p place. refl; writes = λ p place. refl; put = λ p place byte. refl; code = λ p place. refl }

  done_space : (mark : ℕ → Mark) (why : Option Cause) (it : Option Decoded) (state : State Word Flag)
      (noted : Noted m.loads thread)
      → done ops acc mark why it state noted.space ≡ space_at (done ops noter mark why it state noted)
  done_space mark (Some why) it state noted = refl
  done_space mark None None state noted = refl
  done_space mark None (Some it) state noted =
      let number = address_at mark state.place it.disp in
      act_image ops (lent ops noter number) (lent ops acc number) (λ n. n.space) (lent_space number)
      (lent_frame number (marked_frame mark state.place it)) it.instr.operation state noted

  pub plain_space : (mark : ℕ → Mark) (state : State Word Flag) (noted : Noted m.loads thread)
      → plain_step ops acc mark state noted.space ≡ space_at (plain_step ops noter mark state noted)
  unfolding plain_step
  plain_space mark state noted = rw (fetch_noted noted state.place) (done_space mark _ _ state noted)

-- the law
pub notes_follow_meaning : NotesFollowMeaning
notes_follow_meaning m thread mark state noted = plain_space m thread mark state noted
