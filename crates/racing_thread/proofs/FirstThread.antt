-- Before the first turn, and behind the last one.
use Rattle.std.proofs.Common.{◌≡◌, ◌+◌, ℕ, false, List, [], ◌∷◌, drop, Option, Some, None, refl, sym, subst}
use Rattle.std.specs.Prelude.{slice_get}
use Rattle.job_text.specs.declared.thread_lines.ThreadLine.{ThreadLine}
use Rattle.job_text.specs.Jobs.{JobParts}
use Rattle.job_text.specs.Threads.{of_thread}
use Rattle.loaded_modules.specs.Images.{JobImages, infos, last_offset}
use Rattle.module_table.specs.declared.events.Event.{Event}
use Rattle.module_table.specs.Past.{IsLegal}
use Rattle.lawful_points.specs.Orders.{is_over}
use Rattle.lawful_points.specs.Raced.{first_of}
use Rattle.thread_blocks.specs.JobLoads.{job_loads}
use Rattle.thread_blocks.specs.JobWorlds.{numbered_lines}
use Rattle.thread_blocks.specs.Lines.{Line}
use Rattle.thread_blocks.specs.RunTime.{Runs}
use Rattle.thread_blocks.specs.Turns.{Idle, Mid, IsFinished, Phase, Thread}
use Rattle.thread_space.specs.Kept.{Kept}
use Rattle.job_turns.specs.declared.asking.Ask.TheVariants.{Done}
use Rattle.job_turns.specs.Asking.{ask_next}
use Rattle.job_turns.specs.Standing.{IsFirstRun, IsGoing, PhaseIs, Run, StandsFor, Waiting, ask_now, ask_of}
use Rattle.job_turns.proofs.FinishedTurns.{never_done}
use Rattle.job_turns.proofs.FirstTurn.{first_runner_stands}
use Rattle.thread_turns.proofs.Lists.{at_drop, none_drop}

-- ** a runner before its first turn

pub first_runner : (m : JobImages) (job : JobParts) (legal : IsLegal (infos m) (last_offset m) []) (thread : ℕ)
    (r : Run)
    → IsFirstRun thread m job r → StandsFor r (first_of (job_loads m) thread (of_thread job.lines thread))
first_runner m job legal thread r first =
    first_runner_stands m job legal thread r (of_thread job.lines thread) first refl

-- ** a thread that has something left to do

mid_going : (todo : List Line) (steps : ℕ) (points : List ℕ) (h : Runs) → is_over todo (Mid steps points h) ≡ false
mid_going [] steps points h = refl
mid_going (line ∷ todo) steps points h = refl

next_going : (begun : ℕ) (lines : List ThreadLine) (h : Runs) (line : Option ThreadLine) → slice_get lines begun ≡ line
    → IsGoing (ask_next (begun + 1) line) → is_over (numbered_lines (begun + 1) (drop begun lines)) (Idle h) ≡ false
next_going begun lines h None at going = absurd going
next_going begun lines h (Some line) at going = rw (at_drop lines begun line at) refl

phase_going : (k : Kept) (fuel begun : ℕ) (lines : List ThreadLine) (call : Option Waiting) (todo : List Line)
    (phase : Phase Runs)
    → todo ≡ numbered_lines (begun + 1) (drop begun lines) → PhaseIs k fuel call phase
    → IsGoing (ask_now begun lines call)
    → is_over todo phase ≡ false
phase_going k fuel begun lines None todo (Idle h) are is going =
    rw are (next_going begun lines h (slice_get lines begun) refl going)
phase_going k fuel begun lines None todo (Mid steps points h) are is going = absurd is
phase_going k fuel begun lines (Some call) todo (Idle h) are is going = absurd is
phase_going k fuel begun lines (Some call) todo (Mid steps points h) are is going = mid_going todo steps points h

pub is_going : (r : Run) (t : Thread Runs Line Event) → StandsFor r t → IsGoing (ask_of r)
    → is_over t.todo t.phase ≡ false
is_going r t stands going =
    phase_going r.kept r.fuel r.begun r.lines r.call t.todo t.phase stands.todo stands.phase going

-- ** and one that has not

next_over : (begun : ℕ) (lines : List ThreadLine) (h : Runs) (line : Option ThreadLine) → slice_get lines begun ≡ line
    → ask_next (begun + 1) line ≡ Done → IsFinished (numbered_lines (begun + 1) (drop begun lines)) (Idle h)
next_over begun lines h None at done =
    subst (λ (rest : List ThreadLine). IsFinished (numbered_lines (begun + 1) rest) (Idle h))
    (sym (none_drop lines begun at)) tt
next_over begun lines h (Some line) at done = absurd (never_done (begun + 1) line.image line.action done)

phase_over : (k : Kept) (fuel begun : ℕ) (lines : List ThreadLine) (call : Option Waiting) (todo : List Line)
    (phase : Phase Runs)
    → todo ≡ numbered_lines (begun + 1) (drop begun lines) → PhaseIs k fuel call phase → ask_now begun lines call ≡ Done
    → IsFinished todo phase
phase_over k fuel begun lines None todo (Idle h) are is done =
    subst (λ (rest : List Line). IsFinished rest (Idle h)) (sym are)
    (next_over begun lines h (slice_get lines begun) refl done)
phase_over k fuel begun lines None todo (Mid steps points h) are is done = absurd is
phase_over k fuel begun lines (Some call) todo phase are is done = absurd cc

pub is_finished : (r : Run) (t : Thread Runs Line Event) → StandsFor r t → ask_of r ≡ Done → IsFinished t.todo t.phase
is_finished r t stands done =
    phase_over r.kept r.fuel r.begun r.lines r.call t.todo t.phase stands.todo stands.phase done
