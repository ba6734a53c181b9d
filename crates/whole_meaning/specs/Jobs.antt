-- What all threads of a job mean, and whether that is clean. The turns are those of the machine's threads, in the same
-- order, and the data go from turn to turn.
use Rattle.std.specs.Prelude.{ℕ, ◌+◌, ◌*◌, ◌++◌, List, [], ◌∷◌, codes, map, Option, Some, None}
use Rattle.std.specs.Fmt.{decimal}
use Rattle.std.specs.Option.{option_or}
use Rattle.guest_arithmetic.specs.declared.cause.Cause.{Cause}
use Rattle.guest_arithmetic.specs.declared.cause.Cause.TheVariants as cause
use Rattle.guest_operands.specs.declared.stop.Stop.TheVariants.{Unclean}
use Rattle.job_meaning.specs.declared.values.Byte.{Byte}
use Rattle.job_meaning.specs.declared.values.Flag.{Flag}
use Rattle.job_meaning.specs.declared.values.Word.{Word}
use Rattle.job_text.specs.declared.thread_lines.ThreadLine.{ThreadLine}
use Rattle.transcript_text.specs.Texts.{hex16}
use Rattle.thread_blocks.specs.JobWorlds.{Shared, job_start, shared_order}
use Rattle.thread_blocks.specs.Lines.{Line, event_by}
use Rattle.thread_blocks.specs.Turns.{Ending, Said, Stopped, whole_order}
use Rattle.whole_meaning.specs.declared.unclean.UncleanStep.{UncleanStep}
use Rattle.whole_meaning.specs.Meanings.{Meaning}
use Rattle.whole_meaning.specs.Threads.{meant_turns, ops}

-- ** turns

module _ (m : Meaning) where
  -- all turns of a job: as many for each thread as the machine's may need; a finished thread does nothing in a turn
  unfoldable pub meant_world : ℕ → List (List ThreadLine) → List ℕ → Shared Word Flag Byte Line
  meant_world fuel lines order = shared_order (λ thread. meant_turns m thread fuel) (λ thread. event_by m.loads thread)
      (whole_order (4 * fuel) lines order) (job_start ops m.loads lines)

-- the lines of each thread
abbrev pub lines_of : Shared Word Flag Byte Line → List (List Said)
lines_of w = map (λ t. t.said) w.threads

-- ** clean or not

abbrev pub unclean_ending : ℕ → ℕ → Ending → Option UncleanStep
unclean_ending thread line (Stopped (Unclean at why)) =
    Some (record { thread = thread; line = line; address = at; cause = why })
unclean_ending thread line ending = None

-- the first of a thread's lines from this number on
abbrev pub first_in : ℕ → ℕ → List Said → Option UncleanStep
first_in thread line [] = None
first_in thread line (said ∷ more) =
    option_or (unclean_ending thread line said.ending) (first_in thread (line + 1) more)

-- the first of the lowest thread from this number on
abbrev pub first_from : ℕ → List (List Said) → Option UncleanStep
first_from thread [] = None
first_from thread (said ∷ more) = option_or (first_in thread 1 said) (first_from (thread + 1) more)

-- the first unclean step of the lowest thread that has one; a job without one is clean
unfoldable pub verdict_of : List (List Said) → Option UncleanStep
verdict_of said = first_from 1 said

-- ** the printed verdict

abbrev pub cause_name : Cause → List ℕ
cause_name cause.Inside = codes "inside"
cause_name cause.Field = codes "field"
cause_name cause.Linker = codes "linker"
cause_name cause.Undefined = codes "undefined"
cause_name cause.Flags = codes "flags"
cause_name cause.Base = codes "base"
cause_name cause.Descriptor = codes "desc"
cause_name cause.Answer = codes "answer"
cause_name cause.Steps = codes "steps"

-- the line that is printed
unfoldable pub verdict_text : Option UncleanStep → List ℕ
verdict_text None = codes "clean\n"
verdict_text (Some step) =
    codes "unclean t" ++ decimal step.thread ++ codes " l" ++ decimal step.line ++ codes " at " ++ hex16 step.address
    ++ codes " " ++ cause_name step.cause ++ codes "\n"
