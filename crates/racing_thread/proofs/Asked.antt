-- Whether a thread's next turn asks the registry: only lines that open or close do, and these are over at once.
use Rattle.std.proofs.Common.{◌≡◌, ◌+◌, ℕ, false, List, [], ◌∷◌, drop, Option, Some, None, refl}
use Rattle.std.specs.Prelude.{slice_get}
use Rattle.guest_arithmetic.specs.Plain.{plain_operations}
use Rattle.guest_arithmetic.specs.Values.{Operations}
use Rattle.job_text.specs.declared.thread_lines.Action.{Action}
use Rattle.job_text.specs.declared.thread_lines.Action.TheVariants.{Call, Open, Close, Peek}
use Rattle.job_text.specs.declared.thread_lines.ThreadLine.{ThreadLine}
use Rattle.module_table.specs.declared.events.CloseRefusal.{CloseRefusal}
use Rattle.module_table.specs.declared.events.Event.{Event}
use Rattle.module_table.specs.declared.events.OpenRefusal.{OpenRefusal}
use Rattle.module_table.specs.Past.{close_refusal, open_refusal}
use Rattle.thread_blocks.specs.Held.{Held, looked}
use Rattle.thread_blocks.specs.Instances.{Loads, left_by}
use Rattle.thread_blocks.specs.JobWorlds.{numbered_lines}
use Rattle.thread_blocks.specs.Lines.{Line, begin_line, begun_by, begun_close, begun_open}
use Rattle.thread_blocks.specs.RunTime.{Runs, shows, thread_turns}
use Rattle.thread_blocks.specs.Turns.{Begun, Ending, Idle, Mid, Phase, Says, Calls, Thread, next_line}
use Rattle.thread_space.specs.Kept.{Kept}
use Rattle.job_turns.specs.Asking.{ask_by, ask_next}
use Rattle.job_turns.specs.Standing.{PhaseIs, Run, StandsFor, Waiting, ask_now, ask_of}
use Rattle.thread_turns.proofs.Lists.{at_drop, none_drop}
use Rattle.racing_thread.specs.Tallies.{is_registry, is_registry_line}
use Rattle.racing_thread.proofs.Marking.{Goes, asks_registry}

-- ** which lines go on

any_goes : {S : Type 0} (line : Line) → is_registry_line line.told.action ≡ false → (b : Begun S) → Goes line b
any_goes line apart (Says ending s) = tt
any_goes line apart (Calls s) = apart

module _ {W F B : Type 0} (ops : Operations W F B) (l : Loads B) (show : List B → Ending) (thread : ℕ) where
  open_goes : (line : Line) (seen : List Event) (h : Held W F B) (refusal : Option OpenRefusal)
      → Goes line (begun_open ops l show thread line seen h refusal)
  open_goes line seen h None = tt
  open_goes line seen h (Some refusal) = tt

  close_goes : (line : Line) (seen : List Event) (h : Held W F B) (refusal : Option CloseRefusal)
      → Goes line (begun_close ops l show thread line seen h refusal)
  close_goes line seen h None = tt
  close_goes line seen h (Some refusal) = tt

  by_goes : (number image : ℕ) (action : Action) (seen : List Event) (h : Held W F B)
      → let line : Line = record { number = number; told = record { image = image; action = action } } in
      Goes line (begun_by ops l show thread line seen h action)
  by_goes number image (Call symbol a b c) seen h =
      any_goes (record { number = number; told = record { image = image; action = Call symbol a b c } }) refl _
  by_goes number image Open seen h =
      open_goes (record { number = number; told = record { image = image; action = Open } }) seen h
      (open_refusal (left_by l seen) image)
  by_goes number image Close seen h =
      close_goes (record { number = number; told = record { image = image; action = Close } }) seen h
      (close_refusal (left_by l seen) image)
  by_goes number image (Peek symbol size) seen h =
      any_goes (record { number = number; told = record { image = image; action = Peek symbol size } }) refl _

  begin_goes : (line : Line) (seen : List Event) (h : Held W F B) → Goes line (begin_line ops l show thread line seen h)
  unfolding begin_line
  begin_goes line seen h = by_goes line.number line.told.image line.told.action seen (looked l thread seen h)

pub goes : (l : Loads ℕ) (fuel thread : ℕ) (line : Line) (seen : List Event) (h : Runs)
    → Goes line ((thread_turns l thread fuel).begin line seen h)
unfolding thread_turns
goes l fuel thread line seen h = begin_goes plain_operations l (shows l thread) thread line seen h

-- ** what a runner asks next

by_action : (number image : ℕ) (action : Action) → is_registry_line action ≡ is_registry (ask_by number image action)
by_action number image (Call symbol a b c) = refl
by_action number image Open = refl
by_action number image Close = refl
by_action number image (Peek symbol size) = refl

mid_asks : (todo : List Line) (steps : ℕ) (points : List ℕ) (h : Runs)
    → asks_registry (next_line todo (Mid steps points h)) ≡ false
mid_asks [] steps points h = refl
mid_asks (line ∷ todo) steps points h = refl

next_asks : (begun : ℕ) (lines : List ThreadLine) (h : Runs) (line : Option ThreadLine) → slice_get lines begun ≡ line
    → asks_registry (next_line (numbered_lines (begun + 1) (drop begun lines)) (Idle h))
    ≡ is_registry (ask_next (begun + 1) line)
next_asks begun lines h None at = rw (none_drop lines begun at) refl
next_asks begun lines h (Some line) at =
    rw (at_drop lines begun line at) (by_action (begun + 1) line.image line.action)

phase_asks : (k : Kept) (fuel begun : ℕ) (lines : List ThreadLine) (call : Option Waiting) (todo : List Line)
    (phase : Phase Runs)
    → todo ≡ numbered_lines (begun + 1) (drop begun lines) → PhaseIs k fuel call phase
    → asks_registry (next_line todo phase) ≡ is_registry (ask_now begun lines call)
phase_asks k fuel begun lines None todo (Idle h) are is = rw are (next_asks begun lines h (slice_get lines begun) refl)
phase_asks k fuel begun lines None todo (Mid steps points h) are is = absurd is
phase_asks k fuel begun lines (Some call) todo (Idle h) are is = absurd is
phase_asks k fuel begun lines (Some call) todo (Mid steps points h) are is = mid_asks todo steps points h

pub registry_is : (r : Run) (t : Thread Runs Line Event) → StandsFor r t
    → asks_registry (next_line t.todo t.phase) ≡ is_registry (ask_of r)
registry_is r t stands = phase_asks r.kept r.fuel r.begun r.lines r.call t.todo t.phase stands.todo stands.phase
