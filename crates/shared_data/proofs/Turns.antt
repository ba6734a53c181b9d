-- Turns leave data as their changes say.
use Rattle.std.proofs.Common.{◌≡◌, ◌++◌, ◌-◌, ℕ, zero, suc, List, [], ◌∷◌, length, Option, Some, None, sym, subst}
use Rattle.guest_operands.specs.declared.stop.Stop.{Stop}
use Rattle.guest_machine.specs.Run.{Next, Goes, Ends, Looks, Outcome, Ended, Waits, go_on, over_or, run}
use Rattle.guest_machine.specs.RunLaws.{state_after}
use Rattle.module_table.specs.declared.events.Event.{Event}
use Rattle.module_table.specs.Past.{IsLegal}
use Rattle.thread_blocks.specs.Held.{Held, owned_by}
use Rattle.thread_blocks.specs.Instances.{Loads, instances}
use Rattle.thread_blocks.specs.JobWorlds.{held_in}
use Rattle.thread_blocks.specs.Lines.{Line, event_by}
use Rattle.thread_blocks.specs.Turns.{Begun, Says, Calls, Phase, Idle, Mid, Said, Thread, Turns, after_look, after_run}
use Rattle.thread_blocks.specs.Turns.{event_of, turn_at, with_event, with_last}
use Rattle.shared_data.specs.Changes.{Change}
use Rattle.shared_data.specs.Told.{called, filled_by, run_told, step_told, steps_of, steps_told, unless_over}
use Rattle.shared_data.proofs.Begins.{AreOwn, BegunHolds, Follows, none_filled}
use Rattle.shared_data.proofs.Fits.{HasAll}
use Rattle.shared_data.proofs.Held.{Holds, Numbered}
use Rattle.shared_data.proofs.Last.{append_append, append_none}
use Rattle.shared_data.proofs.Left.{AreLeft}
use Rattle.shared_data.proofs.Legal.{are_own, legal_turn, turn_follows}

abbrev pub NextHolds : {W F B : Type 0} → Loads B → ℕ → List Event → List (Change B) → Next (Held W F B) → Type 0
NextHolds l thread seen log (Goes h) = Holds l thread seen log h
NextHolds l thread seen log (Ends stop) = Unit {0}
NextHolds l thread seen log (Looks h) = Holds l thread seen log h

-- what a thread's steps and looks do with data is what is told of them
pub record TellAll {W F B : Type 0} (l : Loads B) (thread : ℕ) (x : Turns (Held W F B) Line Event)
    (changes : Held W F B → List (Change B)) : Type 0 where
  pub step : (seen : List Event) (log : List (Change B)) (h : Held W F B) → Holds l thread seen log h
      → NextHolds l thread seen (log ++ changes h) (x.steps.step h)
  pub begin : (log : List (Change B)) (line : Line) (seen : List Event) (h : Held W F B)
      → let e = event_by l thread line seen in
      AreOwn l seen → AreOwn l (with_event seen e) → Follows l seen e → AreLeft log (owned_by h)
      → HasAll l (instances l seen) (owned_by h)
      → BegunHolds l thread (with_event seen e) (log ++ filled_by l seen e) (x.begin line seen h)
  pub resume : (log : List (Change B)) (seen : List Event) (h : Held W F B) → Numbered l seen → AreLeft log (owned_by h)
      → HasAll l (instances l seen) (owned_by h) → BegunHolds l thread seen log (x.resume seen h)

module _ {W F B : Type 0} (l : Loads B) (thread : ℕ) (x : Turns (Held W F B) Line Event)
    (changes : Held W F B → List (Change B)) (tell : TellAll l thread x changes) where
  -- ** runs

  over_holds : (seen : List Event) (log told : List (Change B)) (n : ℕ) (h : Held W F B) (over : Option Stop)
      (rest : Outcome (Held W F B))
      → Holds l thread seen log h → Holds l thread seen (log ++ told) (state_after rest)
      → Holds l thread seen (log ++ unless_over over told) (state_after (over_or n h over rest))
  over_holds seen log told n h None rest holds more = more
  over_holds seen log told n h (Some stop) rest holds more =
      subst (λ (cs : List (Change B)). Holds l thread seen cs h) (sym (append_none log)) holds

  go_on_holds : (seen : List Event) (log now : List (Change B)) (n m : ℕ) (h : Held W F B) (next : Next (Held W F B))
      → Holds l thread seen log h
      → NextHolds l thread seen (log ++ now) next
      → ((g : Held W F B) → Holds l thread seen (log ++ now) g
      → Holds l thread seen ((log ++ now) ++ run_told x.steps changes n g) (state_after (run x.steps n g)))
      → Holds l thread seen (log ++ step_told now (run_told x.steps changes n) next)
      (state_after (go_on m h (run x.steps n) next))
  go_on_holds seen log now n m h (Goes g) holds after rest =
      subst (λ (cs : List (Change B)). Holds l thread seen cs (state_after (run x.steps n g)))
      (append_append log now (run_told x.steps changes n g)) (rest g after)
  go_on_holds seen log now n m h (Ends stop) holds after rest =
      subst (λ (cs : List (Change B)). Holds l thread seen cs h) (sym (append_none log)) holds
  go_on_holds seen log now n m h (Looks g) holds after rest = after

  pub run_holds : (seen : List Event) (n : ℕ) (log : List (Change B)) (h : Held W F B) → Holds l thread seen log h
      → Holds l thread seen (log ++ run_told x.steps changes n h) (state_after (run x.steps n h))
  run_holds seen zero log h holds = over_none (x.steps.over h)
    where
      over_none : (over : Option Stop)
          → Holds l thread seen (log ++ []) (state_after (over_or zero h over (Ended (x.steps.spent h) zero h)))
      over_none None = subst (λ (cs : List (Change B)). Holds l thread seen cs h) (sym (append_none log)) holds
      over_none (Some stop) = subst (λ (cs : List (Change B)). Holds l thread seen cs h) (sym (append_none log)) holds
  run_holds seen (suc n) log h holds =
      over_holds seen log (step_told (changes h) (run_told x.steps changes n) (x.steps.step h)) (suc n) h
      (x.steps.over h)
      (go_on (suc n) h (run x.steps n) (x.steps.step h)) holds
      (go_on_holds seen log (changes h) n (suc n) h (x.steps.step h) holds (tell.step seen log h holds)
      (λ g now. run_holds seen n (log ++ changes h) g now))

  -- ** turns

  -- between its turns a thread at these events holds all data, as they were left
  abbrev pub HoldsIn : List Event → List (Change B) → Thread (Held W F B) Line Event → Type 0
  HoldsIn seen log t =
      AreLeft log (owned_by (held_in t.phase)) × HasAll l (instances l seen) (owned_by (held_in t.phase))

  run_in : (now : List Event) (log : List (Change B)) (todo : List Line) (said : List Said) (seen : List Event)
      (points : List ℕ) (out : Outcome (Held W F B)) → Holds l thread now log (state_after out)
      → HoldsIn now log (after_run todo said seen points out)
  run_in now log todo said seen points (Ended stop n h) holds = (holds.1.0, holds.1.1.1.all)
  run_in now log todo said seen points (Waits n h) holds = (holds.1.0, holds.1.1.1.all)

  look_in : (now : List Event) (log filled : List (Change B)) (steps : ℕ) (todo : List Line) (said : List Said)
      (seen : List Event) (points : List ℕ) (begun : Begun (Held W F B)) → BegunHolds l thread now (log ++ filled) begun
      → HoldsIn now (log ++ (filled ++ steps_told x.steps changes (called steps begun)))
      (after_look x steps todo said seen points begun)
  look_in now log filled steps todo said seen points (Says ending h) holds = (
    subst (λ (cs : List (Change B)). AreLeft (log ++ cs) (owned_by h)) (sym (append_none filled)) holds.1.0,
    holds.1.1.1.all,
  )
  look_in now log filled steps todo said seen points (Calls h) holds =
      subst (λ (cs : List (Change B)). HoldsIn now cs (after_run todo said seen points (run x.steps steps h)))
      (append_append log filled (run_told x.steps changes steps h))
      (run_in now ((log ++ filled) ++ run_told x.steps changes steps h) todo said seen points (run x.steps steps h)
      (run_holds now steps (log ++ filled) h holds))

  -- the event of a thread that stands so
  abbrev event_at : List Line → Phase (Held W F B) → List Event → Option Event
  event_at todo phase seen =
      event_of (event_by l thread) (record { todo = todo; phase = phase; said = []; seen = [] }) seen

  -- its next line's first look, where what was seen is legal
  line_begins : (log : List (Change B)) (line : Line) (todo : List Line) (h : Held W F B) (said : List Said)
      (old seen : List Event) → IsLegal l.infos l.last_offset seen → AreLeft log (owned_by h)
      → HasAll l (instances l seen) (owned_by h)
      → let e = event_by l thread line seen in
      BegunHolds l thread (with_event seen e) (log ++ filled_by l seen e) (x.begin line seen h)
  line_begins log line todo h said old seen legal left all =
      let t : Thread (Held W F B) Line Event = record { todo = line ∷ todo; phase = Idle h; said = said; seen = old } in
      tell.begin log line seen h (are_own l seen legal) (are_own l _ (legal_turn l thread t seen legal))
      (turn_follows l thread t seen legal) left all

  line_resumes : (log : List (Change B)) (h : Held W F B) (seen : List Event) → IsLegal l.infos l.last_offset seen
      → AreLeft log (owned_by h) → HasAll l (instances l seen) (owned_by h)
      → BegunHolds l thread seen (log ++ []) (x.resume seen h)
  line_resumes log h seen legal left all =
      none_filled l thread seen log (x.resume seen h) (tell.resume log seen h (are_own l seen legal).numbers left all)

  turn_in : (log : List (Change B)) (todo : List Line) (phase : Phase (Held W F B)) (said : List Said)
      (old seen : List Event)
      → IsLegal l.infos l.last_offset seen → AreLeft log (owned_by (held_in phase))
      → HasAll l (instances l seen) (owned_by (held_in phase))
      → HoldsIn (with_event seen (event_at todo phase seen)) (log ++ (filled_by l seen (event_at todo phase seen)
      ++ steps_told x.steps changes (steps_of x todo phase seen))) (turn_at x todo phase said old seen)
  turn_in log [] (Idle h) said old seen legal left all =
      (subst (λ (cs : List (Change B)). AreLeft cs (owned_by h)) (sym (append_none log)) left, all)
  turn_in log (line ∷ todo) (Idle h) said old seen legal left all =
      look_in (with_event seen (event_by l thread line seen)) log (filled_by l seen
      (event_by l thread line seen)) x.fuel
      todo said seen (length seen ∷ []) (x.begin line seen h) (line_begins log line todo h said old seen legal left all)
  turn_in log [] (Mid steps points h) said old seen legal left all =
      look_in seen log [] (steps - 1) [] said seen (with_last points (length seen)) (x.resume seen h)
      (line_resumes log h seen legal left all)
  turn_in log (line ∷ todo) (Mid steps points h) said old seen legal left all =
      look_in seen log [] (steps - 1) (line ∷ todo) said seen (with_last points (length seen)) (x.resume seen h)
      (line_resumes log h seen legal left all)

  pub turn_holds : (log : List (Change B)) (t : Thread (Held W F B) Line Event) (seen : List Event)
      → IsLegal l.infos l.last_offset seen → AreLeft log (owned_by (held_in t.phase))
      → HasAll l (instances l seen) (owned_by (held_in t.phase))
      → let e = event_of (event_by l thread) t seen in
      HoldsIn (with_event seen e) (log ++ (filled_by l seen e
      ++ steps_told x.steps changes (steps_of x t.todo t.phase seen))) (turn_at x t.todo t.phase t.said t.seen seen)
  turn_holds log t seen legal left all = turn_in log t.todo t.phase t.said t.seen seen legal left all

  -- ** where a turn's steps begin

  called_holds : (now : List Event) (log : List (Change B)) (steps : ℕ) (begun : Begun (Held W F B))
      (from : ℕ × Held W F B)
      → called steps begun ≡ Some from → BegunHolds l thread now log begun → Holds l thread now log from.1
  called_holds now log steps (Says ending h) from e holds = cc
  called_holds now log steps (Calls h) from e holds =
      let same : (steps, h) ≡ from = let s = e in cc in
      subst (λ (p : ℕ × Held W F B). Holds l thread now log p.1) same holds

  begins_in : (log : List (Change B)) (todo : List Line) (phase : Phase (Held W F B)) (seen : List Event)
      (from : ℕ × Held W F B) → IsLegal l.infos l.last_offset seen → AreLeft log (owned_by (held_in phase))
      → HasAll l (instances l seen) (owned_by (held_in phase)) → steps_of x todo phase seen ≡ Some from
      → Holds l thread (with_event seen (event_at todo phase seen)) (log ++ filled_by l seen
      (event_at todo phase seen)) from.1
  begins_in log [] (Idle h) seen from legal left all e = cc
  begins_in log (line ∷ todo) (Idle h) seen from legal left all e =
      called_holds (with_event seen (event_by l thread line seen)) (log ++ filled_by l seen
      (event_by l thread line seen))
      x.fuel (x.begin line seen h) from e (line_begins log line todo h [] [] seen legal left all)
  begins_in log [] (Mid steps points h) seen from legal left all e =
      called_holds seen (log ++ []) (steps - 1) (x.resume seen h) from e (line_resumes log h seen legal left all)
  begins_in log (line ∷ todo) (Mid steps points h) seen from legal left all e =
      called_holds seen (log ++ []) (steps - 1) (x.resume seen h) from e (line_resumes log h seen legal left all)

  pub begins_hold : (log : List (Change B)) (t : Thread (Held W F B) Line Event) (seen : List Event)
      (from : ℕ × Held W F B) → IsLegal l.infos l.last_offset seen → AreLeft log (owned_by (held_in t.phase))
      → HasAll l (instances l seen) (owned_by (held_in t.phase)) → steps_of x t.todo t.phase seen ≡ Some from
      → let e = event_of (event_by l thread) t seen in
      Holds l thread (with_event seen e) (log ++ filled_by l seen e) from.1
  begins_hold log t seen from legal left all e = begins_in log t.todo t.phase seen from legal left all e
