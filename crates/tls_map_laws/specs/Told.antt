-- All that a thread does in its turns, the newest first, as its looks and steps tell it.
use Rattle.std.specs.Prelude.{ℕ, zero, suc, List, [], ◌∷◌, Option, Some, None, if◌then◌else◌, ◌==◌}
use Rattle.guest_operands.specs.declared.stop.Stop.{Stop}
use Rattle.guest_machine.specs.Run.{Next, Goes, Ends, Looks}
use Rattle.job_text.specs.declared.thread_lines.Action.{Action}
use Rattle.job_text.specs.declared.thread_lines.Action.TheVariants.{Call, Open, Close, Peek}
use Rattle.lawful_points.specs.Laws.{AtFronts}
use Rattle.lawful_points.specs.Orders.{looks_of}
use Rattle.lawful_points.specs.Points.{Follows}
use Rattle.loaded_modules.specs.declared.instance.Instance.{Instance}
use Rattle.module_table.specs.declared.events.Event.{Event}
use Rattle.shared_data.specs.Told.{steps_of}
use Rattle.thread_blocks.specs.Held.{Held}
use Rattle.thread_blocks.specs.Instances.{Loads, instance_at, instances}
use Rattle.thread_blocks.specs.JobWorlds.{Shared, shared_turn, with_data}
use Rattle.thread_blocks.specs.Lines.{Line, event_by}
use Rattle.thread_blocks.specs.Turns.{Phase, Idle, Mid, Thread, Turns, at_number, turn, with_last}
use Rattle.tls_map_laws.specs.Map.{Act, Asked}
use Rattle.tls_map_laws.specs.Acts.{look_of}

-- ** looks

module _ {B : Type 0} (l : Loads B) where
  abbrev pub with_look : List Event → List (Act B) → List (Act B)
  with_look seen acts = look_of (instances l seen) ∷ acts

  abbrev pub with_asked : Option Instance → List (Act B) → List (Act B)
  with_asked None acts = acts
  with_asked (Some x) acts = Asked x.number ∷ acts

  -- an accepted event is seen at once
  abbrev pub with_own : List Event → Option Event → List (Act B) → List (Act B)
  with_own seen None acts = acts
  with_own seen (Some e) acts = with_look (with_last seen e) acts

  -- a peek at a live image asks for its storage, whatever symbol and size it names
  abbrev pub with_action : ℕ → List Event → Action → List (Act B) → List (Act B)
  with_action image seen (Call symbol a b c) acts = acts
  with_action image seen Open acts = acts
  with_action image seen Close acts = acts
  with_action image seen (Peek symbol size) acts = with_asked (instance_at l seen image) acts

  -- a line's first look
  abbrev pub begin_acts : ℕ → Line → List Event → List (Act B) → List (Act B)
  begin_acts thread line seen acts = with_own seen (event_by l thread line seen)
      (with_action line.told.image seen line.told.action (with_look seen acts))

  -- before its first line a thread has looked once, and seen no event
  abbrev pub first_acts : List (Act B)
  first_acts = with_look [] []

-- ** runs

abbrev pub unless_over : {A : Type 0} → Option Stop → A → A → A
unless_over None old new = new
unless_over (Some stop) old new = old

abbrev pub after_next : {S A : Type 0} → A → A → (S → A → A) → Next S → A
after_next old now more (Goes s) = more s now
after_next old now more (Ends stop) = old
after_next old now more (Looks s) = now

-- step_acts: a step's stores, behind what was done before; asks: the instance that a look in the middle of a line is
-- for, if it finds it
module _ {W F B : Type 0} (l : Loads B) (thread : ℕ) (x : Turns (Held W F B) Line Event)
    (step_acts : List (Act B) → Held W F B → List (Act B)) (asks : List Event → Held W F B → Option Instance) where
  -- a look in the middle of a line
  abbrev pub resume_acts : List Event → Held W F B → List (Act B) → List (Act B)
  resume_acts seen h acts = with_asked l (asks seen h) (with_look l seen acts)

  -- at most this many steps; a step that is refused does nothing
  abbrev pub run_acts : ℕ → Held W F B → List (Act B) → List (Act B)
  run_acts zero h acts = acts
  run_acts (suc n) h acts =
      unless_over (x.steps.over h) acts (after_next acts (step_acts acts h) (run_acts n) (x.steps.step h))

  -- ** turns

  -- the look of a thread's next turn
  abbrev pub look_acts : List Line → Phase (Held W F B) → List Event → List (Act B) → List (Act B)
  look_acts [] (Idle h) seen acts = acts
  look_acts (line ∷ todo) (Idle h) seen acts = begin_acts l thread line seen acts
  look_acts todo (Mid left points h) seen acts = resume_acts seen h acts

  -- the steps after it, from where they begin
  abbrev pub steps_acts : Option (ℕ × Held W F B) → List (Act B) → List (Act B)
  steps_acts None acts = acts
  steps_acts (Some from) acts = run_acts from.0 from.1 acts

  abbrev pub turn_acts : Thread (Held W F B) Line Event → List Event → List (Act B) → List (Act B)
  turn_acts t seen acts = steps_acts (steps_of x t.todo t.phase seen) (look_acts t.todo t.phase seen acts)

  -- turns, each at its own events
  abbrev pub turns_acts : Thread (Held W F B) Line Event → List (List Event) → List (Act B) → List (Act B)
  turns_acts t [] acts = acts
  turns_acts t (seen ∷ more) acts = turns_acts (turn x t seen) more (turn_acts t seen acts)

-- ** all threads of a job: what thread i does in an order of turns. It does nothing in those of others

module _ {W F B : Type 0} (l : Loads B) (x : ℕ → Turns (Held W F B) Line Event)
    (step_acts : ℕ → List (Act B) → Held W F B → List (Act B)) (asks : ℕ → List Event → Held W F B → Option Instance)
    (i : ℕ) where
  -- in a turn of thread j
  abbrev pub shared_acts : ℕ → Shared W F B Line → Option (Thread (Held W F B) Line Event) → List (Act B)
      → List (Act B)
  shared_acts j w None acts = acts
  shared_acts j w (Some t) acts = if j == i
      then turn_acts l i (x i) (step_acts i) (asks i) (with_data w.shared t) w.events acts
      else acts

  abbrev pub order_acts : List ℕ → Shared W F B Line → List (Act B) → List (Act B)
  order_acts [] w acts = acts
  order_acts (j ∷ order) w acts =
      order_acts order (shared_turn x (λ (k : ℕ). event_by l k) w j (at_number w.threads j))
      (shared_acts j w (at_number w.threads j) acts)

-- ** points

-- a thread's turns are at points of a history that rise: each look sees all that the one before saw, and the event that
-- was added there; it sees a front of the history, also with its own event added
pub record AtRising {S : Type 0} (x : Turns S Line Event) (event : Line → List Event → Option Event)
    (history : List Event) (t : Thread S Line Event) (points : List (List Event)) : Type 0 where
  pub follows : Follows [] (looks_of x event t points)
  pub fronts : AtFronts x event history t points
