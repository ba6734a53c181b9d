-- Turns: what a thread holds after them is what the map says, if its looks, reaches and steps keep it so.
use Rattle.std.proofs.Common.{◌≡◌, ◌-◌, ℕ, zero, suc, List, [], ◌∷◌, length, Option, Some, None, sym, subst, append-nil}
use Rattle.guest_operands.specs.declared.stop.Stop.{Stop}
use Rattle.guest_machine.specs.Run.{Next, Goes, Ends, Looks, Outcome, Ended, Waits, go_on, over_or, run}
use Rattle.guest_machine.specs.RunLaws.{state_after}
use Rattle.lawful_points.specs.Laws.{AtFronts}
use Rattle.lawful_points.specs.Orders.{looks_of}
use Rattle.lawful_points.specs.Points.{Follows}
use Rattle.loaded_modules.specs.declared.instance.Instance.{Instance}
use Rattle.module_table.specs.declared.events.Event.{Event}
use Rattle.shared_data.specs.Told.{called, steps_of}
use Rattle.thread_blocks.specs.Held.{Held}
use Rattle.thread_blocks.specs.Instances.{Loads}
use Rattle.thread_blocks.specs.JobWorlds.{held_in}
use Rattle.thread_blocks.specs.Lines.{Line, event_by}
use Rattle.thread_blocks.specs.Turns.{Begun, Says, Calls, Phase, Idle, Mid, Said, Thread, Turns, after_look, after_run}
use Rattle.thread_blocks.specs.Turns.{event_of, turn, turn_at, turns, with_event, with_last}
use Rattle.thread_blocks.specs.Turns.{IsFront}
use Rattle.tls_map_laws.specs.Map.{Act}
use Rattle.tls_map_laws.specs.Told.{after_next, begin_acts, look_acts, resume_acts, run_acts, steps_acts, turn_acts}
use Rattle.tls_map_laws.specs.Told.{turns_acts, unless_over}
use Rattle.tls_map_laws.proofs.Known.{Known, front_then, known_front}
use Rattle.tls_map_laws.proofs.Keeping.{fits_front}
use Rattle.tls_map_laws.proofs.Begins.{BegunFits, FitsBy, front_of}

module _ {W F B : Type 0} (l : Loads B) (thread : ℕ) (history : List Event) (known : Known l thread history) where
  abbrev pub NextFits : List (Act B) → Next (Held W F B) → Type 0
  NextFits acts (Goes h) = FitsBy l thread history known acts h
  NextFits acts (Ends stop) = Unit {0}
  NextFits acts (Looks h) = FitsBy l thread history known acts h

  module _ (x : Turns (Held W F B) Line Event) (step_acts : List (Act B) → Held W F B → List (Act B))
      (asks : List Event → Held W F B → Option Instance) where
    abbrev Fit : List (Act B) → Held W F B → Type 0
    Fit acts h = FitsBy l thread history known acts h

    -- what machine and meaning each have to show
    pub record KeepsMap : Type 0 where
      pub step : (acts : List (Act B)) (h : Held W F B) → FitsBy l thread history known acts h
          → NextFits (step_acts acts h) (x.steps.step h)
      pub begin : (acts : List (Act B)) (line : Line) (seen : List Event) (h : Held W F B)
          → FitsBy l thread history known acts h
          → IsFront h.after.memory.seen seen → IsFront (with_event seen (event_by l thread line seen)) history
          → BegunFits l thread history known (begin_acts l thread line seen acts) (x.begin line seen h)
      pub resume : (acts : List (Act B)) (seen : List Event) (h : Held W F B) → FitsBy l thread history known acts h
          → IsFront h.after.memory.seen seen → IsFront seen history
          → BegunFits l thread history known (resume_acts l thread x step_acts asks seen h acts) (x.resume seen h)

    module _ (keeps : KeepsMap) where
      abbrev ran : ℕ → Held W F B → List (Act B) → List (Act B)
      ran n h acts = run_acts l thread x step_acts asks n h acts

      -- ** steps

      over_fits : (acts after : List (Act B)) (n : ℕ) (h : Held W F B) (over : Option Stop)
          (rest : Outcome (Held W F B))
          → Fit acts h → Fit after (state_after rest)
          → Fit (unless_over over acts after) (state_after (over_or n h over rest))
      over_fits acts after n h None rest fits more = more
      over_fits acts after n h (Some stop) rest fits more = fits

      go_fits : (acts now : List (Act B)) (n m : ℕ) (h : Held W F B) (next : Next (Held W F B)) → Fit acts h
          → NextFits now next
          → ((g : Held W F B) → Fit now g → Fit (ran n g now) (state_after (run x.steps n g)))
          → Fit (after_next acts now (ran n) next) (state_after (go_on m h (run x.steps n) next))
      go_fits acts now n m h (Goes g) fits after rest = rest g after
      go_fits acts now n m h (Ends stop) fits after rest = fits
      go_fits acts now n m h (Looks g) fits after rest = after

      over_same : (acts : List (Act B)) (h : Held W F B) (over : Option Stop) → Fit acts h
          → Fit acts (state_after (over_or zero h over (Ended (x.steps.spent h) zero h)))
      over_same acts h None fits = fits
      over_same acts h (Some stop) fits = fits

      -- the law: after any steps
      pub run_fits : (n : ℕ) (h : Held W F B) (acts : List (Act B)) → Fit acts h
          → Fit (ran n h acts) (state_after (run x.steps n h))
      run_fits zero h acts fits = over_same acts h (x.steps.over h) fits
      run_fits (suc n) h acts fits =
          over_fits acts (after_next acts (step_acts acts h) (ran n) (x.steps.step h)) (suc n) h (x.steps.over h)
          (go_on (suc n) h (run x.steps n) (x.steps.step h)) fits
          (go_fits acts (step_acts acts h) n (suc n) h (x.steps.step h) fits (keeps.step acts h fits)
          (λ g now. run_fits n g (step_acts acts h) now))

      -- ** one turn

      run_in : (acts : List (Act B)) (todo : List Line) (said : List Said) (seen : List Event) (points : List ℕ)
          (out : Outcome (Held W F B)) → Fit acts (state_after out)
          → Fit acts (held_in (after_run todo said seen points out).phase)
      run_in acts todo said seen points (Ended stop n h) fits = fits
      run_in acts todo said seen points (Waits n h) fits = fits

      look_in : (acts : List (Act B)) (steps : ℕ) (todo : List Line) (said : List Said) (seen : List Event)
          (points : List ℕ) (begun : Begun (Held W F B)) → BegunFits l thread history known acts begun
          → Fit (steps_acts l thread x step_acts asks (called steps begun) acts)
          (held_in (after_look x steps todo said seen points begun).phase)
      look_in acts steps todo said seen points (Says ending h) fits = fits
      look_in acts steps todo said seen points (Calls h) fits =
          run_in (ran steps h acts) todo said seen points (run x.steps steps h) (run_fits steps h acts fits)

      turn_in : (acts : List (Act B)) (todo : List Line) (phase : Phase (Held W F B)) (said : List Said)
          (old seen : List Event) → Fit acts (held_in phase) → IsFront (held_in phase).after.memory.seen seen
          → IsFront (with_event seen (event_of (event_by l thread)
          (record { todo = todo; phase = phase; said = said; seen = old }) seen)) history
          → Fit (steps_acts l thread x step_acts asks (steps_of x todo phase seen)
          (look_acts l thread x step_acts asks todo phase seen acts))
          (held_in (turn_at x todo phase said old seen).phase)
      turn_in acts [] (Idle h) said old seen fits f g = fits
      turn_in acts (line ∷ todo) (Idle h) said old seen fits f g =
          look_in (begin_acts l thread line seen acts) x.fuel todo said seen (length seen ∷ []) (x.begin line seen h)
          (keeps.begin acts line seen h fits f g)
      turn_in acts [] (Mid steps points h) said old seen fits f g =
          look_in (resume_acts l thread x step_acts asks seen h acts) (steps - 1) [] said seen
          (with_last points (length seen)) (x.resume seen h) (keeps.resume acts seen h fits f g)
      turn_in acts (line ∷ todo) (Mid steps points h) said old seen fits f g =
          look_in (resume_acts l thread x step_acts asks seen h acts) (steps - 1) (line ∷ todo) said seen
          (with_last points (length seen)) (x.resume seen h) (keeps.resume acts seen h fits f g)

      -- the law: after a turn
      pub turn_fits : (acts : List (Act B)) (t : Thread (Held W F B) Line Event) (seen : List Event)
          → Fit acts (held_in t.phase) → IsFront (held_in t.phase).after.memory.seen seen
          → IsFront (with_event seen (event_of (event_by l thread) t seen)) history
          → Fit (turn_acts l thread x step_acts asks t seen acts) (held_in (turn x t seen).phase)
      turn_fits acts t seen fits f g = turn_in acts t.todo t.phase t.said t.seen seen fits f g

      -- ** where its steps begin

      begun_at : (acts : List (Act B)) (steps : ℕ) (begun : Begun (Held W F B)) (from : ℕ × Held W F B)
          → BegunFits l thread history known acts begun → called steps begun ≡ Some from → Fit acts from.1
      begun_at acts steps (Says ending h) from fits e = cc
      begun_at acts steps (Calls h) from fits e =
          let same : h ≡ from.1 = (let s = e in cc) in subst (λ (g : Held W F B). Fit acts g) same fits

      steps_at : (acts : List (Act B)) (todo : List Line) (phase : Phase (Held W F B)) (said : List Said)
          (old seen : List Event) (from : ℕ × Held W F B) → Fit acts (held_in phase)
          → IsFront (held_in phase).after.memory.seen seen
          → IsFront (with_event seen (event_of (event_by l thread)
          (record { todo = todo; phase = phase; said = said; seen = old }) seen)) history
          → steps_of x todo phase seen ≡ Some from
          → Fit (look_acts l thread x step_acts asks todo phase seen acts) from.1
      steps_at acts [] (Idle h) said old seen from fits f g e = cc
      steps_at acts (line ∷ todo) (Idle h) said old seen from fits f g e =
          begun_at (begin_acts l thread line seen acts) x.fuel (x.begin line seen h) from
          (keeps.begin acts line seen h fits f g) e
      steps_at acts [] (Mid steps points h) said old seen from fits f g e =
          begun_at (resume_acts l thread x step_acts asks seen h acts) (steps - 1) (x.resume seen h) from
          (keeps.resume acts seen h fits f g) e
      steps_at acts (line ∷ todo) (Mid steps points h) said old seen from fits f g e =
          begun_at (resume_acts l thread x step_acts asks seen h acts) (steps - 1) (x.resume seen h) from
          (keeps.resume acts seen h fits f g) e

      -- the law: within a turn
      pub within_fits : (acts : List (Act B)) (t : Thread (Held W F B) Line Event) (seen : List Event)
          (from : ℕ × Held W F B) (n : ℕ)
          → Fit acts (held_in t.phase) → IsFront (held_in t.phase).after.memory.seen seen
          → IsFront (with_event seen (event_of (event_by l thread) t seen)) history
          → steps_of x t.todo t.phase seen ≡ Some from
          → Fit (ran n from.1 (look_acts l thread x step_acts asks t.todo t.phase seen acts))
          (state_after (run x.steps n from.1))
      within_fits acts t seen from n fits f g e =
          run_fits n from.1 (look_acts l thread x step_acts asks t.todo t.phase seen acts)
          (steps_at acts t.todo t.phase t.said t.seen seen from fits f g e)

-- ** turns at rising points

module _ {W F B : Type 0} (l : Loads B) (thread : ℕ) (x : Turns (Held W F B) Line Event)
    (step_acts : List (Act B) → Held W F B → List (Act B)) (asks : List Event → Held W F B → Option Instance)
    (keeps : (history : List Event) (known : Known l thread history)
    → KeepsMap l thread history known x step_acts asks) where
  abbrev Ours : Type 0
  Ours = Thread (Held W F B) Line Event

  abbrev own : Ours → List Event → Option Event
  own t seen = event_of (event_by l thread) t seen

  -- a thread in its turn, which sees these events
  pub record Stands (history : List Event) (known : Known l thread history) (acts : List (Act B)) (t : Ours)
      (seen : List Event) : Type 0 where
    pub fits : FitsBy l thread history known acts (held_in t.phase)
    pub front : IsFront (held_in t.phase).after.memory.seen seen
    pub mine : IsFront (with_event seen (own t seen)) history

  whole : (xs : List Event) → IsFront xs xs
  whole xs = ([], sym (append-nil xs))

  -- after it, the thread has seen nothing but these and its own event
  pub seen_front : (history : List Event) (known : Known l thread history) (acts : List (Act B)) (t : Ours)
      (seen : List Event) → FitsBy l thread history known acts (held_in t.phase)
      → IsFront (held_in t.phase).after.memory.seen seen → IsFront (with_event seen (own t seen)) history
      → IsFront (held_in (turn x t seen).phase).after.memory.seen (with_event seen (own t seen))
  seen_front history known acts t seen fits front mine =
      let short = with_event seen (own t seen) in
      let known' = known_front l thread short history mine known in
      let to = front_then (held_in t.phase).after.memory.seen seen short front
      (front_of seen (own t seen) short (whole short)) in
      let fits' = fits_front l thread history known acts (held_in t.phase).after.memory.seen (held_in t.phase).owners
      (held_in t.phase).after.memory.own short mine to fits in
      (turn_fits l thread short known' x step_acts asks (keeps short known') acts t seen fits' front
      (whole short)).front

  module _ (history : List Event) (known : Known l thread history) where
    abbrev Fits_at : List (Act B) → Ours → Type 0
    Fits_at acts t = FitsBy l thread history known acts (held_in t.phase)

    -- the law: after turns
    pub rising_fits : (points : List (List Event)) (t : Ours) (acts : List (Act B)) (old : List Event) → Fits_at acts t
        → IsFront (held_in t.phase).after.memory.seen old → Follows old (looks_of x (event_by l thread) t points)
        → AtFronts x (event_by l thread) history t points
        → Fits_at (turns_acts l thread x step_acts asks t points acts) (turns x t points)
    rising_fits [] t acts old fits front follows fronts = fits
    rising_fits (seen ∷ more) t acts old fits front follows fronts =
        let to = front_then (held_in t.phase).after.memory.seen old seen front follows.0 in
        rising_fits more (turn x t seen) (turn_acts l thread x step_acts asks t seen acts)
        (with_event seen (own t seen))
        (turn_fits l thread history known x step_acts asks (keeps history known) acts t seen fits to fronts.0.1)
        (seen_front history known acts t seen fits to fronts.0.1) follows.1 fronts.1

    -- and in the turn that follows
    pub rising_stands : (points : List (List Event)) (last : List Event) (t : Ours) (acts : List (Act B))
        (old : List Event)
        → Fits_at acts t
        → IsFront (held_in t.phase).after.memory.seen old
        → Follows old (looks_of x (event_by l thread) t (with_last points last))
        → AtFronts x (event_by l thread) history t (with_last points last)
        → Stands history known (turns_acts l thread x step_acts asks t points acts) (turns x t points) last
    rising_stands [] last t acts old fits front follows fronts = record {
      fits = fits;
      front = front_then (held_in t.phase).after.memory.seen old last front follows.0;
      mine = fronts.0.1;
    }
    rising_stands (seen ∷ more) last t acts old fits front follows fronts =
        let to = front_then (held_in t.phase).after.memory.seen old seen front follows.0 in
        rising_stands more last (turn x t seen) (turn_acts l thread x step_acts asks t seen acts)
        (with_event seen (own t seen))
        (turn_fits l thread history known x step_acts asks (keeps history known) acts t seen fits to fronts.0.1)
        (seen_front history known acts t seen fits to fronts.0.1) follows.1 fronts.1
