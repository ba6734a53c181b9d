-- Threads that hold blocks alone, whatever their steps are: each takes its own turns, at fronts of the history.
use Rattle.std.proofs.Common.{◌≡◌, ◌⊎◌, ◌∙◌, ◌-◌, ◌++◌, ℕ, zero, suc, List, [], ◌∷◌, length, Option, Some, None, refl}
use Rattle.std.proofs.Common.{sym, ap, subst, inl, inr, append-nil}
use Rattle.std.specs.Prelude.{slice_get, slice_set}
use Rattle.guest_operands.specs.declared.stop.Stop.{Stop}
use Rattle.guest_machine.specs.Run.{Next, Goes, Ends, Looks, Outcome, Ended, Waits, Stepping, over_or, go_on, run}
use Rattle.guest_machine.specs.Use.{left}
use Rattle.module_table.specs.declared.events.Event.{Event}
use Rattle.thread_blocks.specs.Held.{Held, Owner, owned_by, ranges_in, with_owned}
use Rattle.thread_blocks.specs.JobWorlds.{Shared, blocks_in, changed, data_in, held_in, shared_order, shared_turn}
use Rattle.thread_blocks.specs.JobWorlds.{with_data, without_data}
use Rattle.thread_blocks.specs.Turns.{Said, Begun, Says, Calls, Turns, Phase, Idle, Mid, Thread, IsFinished, after_look}
use Rattle.thread_blocks.specs.Turns.{after_run, turn, turn_at, turns, with_last}
use Rattle.thread_blocks.specs.TurnsAlike.{Rises}
use Rattle.thread_blocks.specs.Turns.{AllFronts, IsFront}
use Rattle.thread_blocks.proofs.Orders.{front-trans, get-set, get-set_same, order-front, taken, turn-front, turned}
use Rattle.thread_blocks.proofs.Blocks.{HoldsBlocks, blocks_again, no_data, owners_again, ranges_again}
use Rattle.thread_blocks.proofs.BlocksBegun.{BegunHolds}
use Rattle.thread_blocks.proofs.Turns.{turn-finished, turn-seen}

abbrev pub NextHolds : {W F B : Type 0} → Next (Held W F B) → Type 0
NextHolds (Goes h) = HoldsBlocks h
NextHolds (Ends stop) = Unit {0}
NextHolds (Looks h) = HoldsBlocks h

abbrev OutHolds : {W F B : Type 0} → Outcome (Held W F B) → Type 0
OutHolds (Ended stop n h) = HoldsBlocks h
OutHolds (Waits n h) = HoldsBlocks h

-- looks leave blocks, and steps keep them
pub record KeepsBlocks {W F B L : Type 0} (x : Turns (Held W F B) L Event) : Type 0 where
  pub begin : (line : L) (seen : List Event) (h : Held W F B) → BegunHolds (x.begin line seen h)
  pub resume : (seen : List Event) (h : Held W F B) → BegunHolds (x.resume seen h)
  pub step : (h : Held W F B) → HoldsBlocks h → NextHolds (x.steps.step h)

-- ** no data in a thread's hands is no change

module _ {W F B : Type 0} (h : Held W F B) (holds : HoldsBlocks h) where
  same_again : with_owned h (owned_by h) ≡ h
  same_again =
      ap (λ (os : List Owner). record {
        after = left h.after.state (record h.after.memory { own = ranges_in (owned_by h) });
        owners = os;
        asked = h.asked;
      }) (owners_again h.owners h.after.memory.own holds)
      ∙ ap (λ own. record {
        after = left h.after.state (record h.after.memory { own = own });
        owners = h.owners;
        asked = h.asked;
      })
      (ranges_again h.owners h.after.memory.own holds)

  in_hands : with_owned h (owned_by h ++ []) ≡ h
  in_hands = ap (with_owned h) (append-nil (owned_by h)) ∙ same_again

  out_of_hands : with_owned h (blocks_in (owned_by h)) ≡ h
  out_of_hands = ap (with_owned h) (blocks_again h.owners h.after.memory.own holds) ∙ same_again

module _ {W F B : Type 0} where
  phase_same : (f : Held W F B → Held W F B) (phase : Phase (Held W F B)) → f (held_in phase) ≡ held_in phase
      → changed f phase ≡ phase
  phase_same f (Idle h) e = ap (λ g. Idle g) e
  phase_same f (Mid steps points h) e = ap (λ g. Mid steps points g) e

-- a thread that holds blocks
abbrev pub Holds : {W F B L : Type 0} → Thread (Held W F B) L Event → Type 0
Holds t = HoldsBlocks (held_in t.phase)

module _ {W F B L : Type 0} where
  with_none : (t : Thread (Held W F B) L Event) → Holds t → with_data [] t ≡ t
  with_none t holds =
      ap (λ (phase : Phase (Held W F B)). record t { phase = phase })
      (phase_same (λ h. with_owned h (owned_by h ++ [])) t.phase (in_hands (held_in t.phase) holds))

  pub without_none : (t : Thread (Held W F B) L Event) → Holds t → without_data t ≡ t
  without_none t holds =
      ap (λ (phase : Phase (Held W F B)). record t { phase = phase })
      (phase_same (λ h. with_owned h (blocks_in (owned_by h))) t.phase (out_of_hands (held_in t.phase) holds))

-- ** runs

module _ {W F B : Type 0} (y : Stepping (Held W F B))
    (step : (h : Held W F B) → HoldsBlocks h → NextHolds (y.step h)) where
  over_holds : (n : ℕ) (h : Held W F B) (over : Option Stop) (rest : Outcome (Held W F B)) → HoldsBlocks h
      → OutHolds rest → OutHolds (over_or n h over rest)
  over_holds n h None rest holds more = more
  over_holds n h (Some stop) rest holds more = holds

  go_on_holds : (n m : ℕ) (h : Held W F B) (next : Next (Held W F B)) → HoldsBlocks h → NextHolds next
      → ((g : Held W F B) → HoldsBlocks g → OutHolds (run y n g))
      → OutHolds (go_on m h (run y n) next)
  go_on_holds n m h (Goes g) holds now rest = rest g now
  go_on_holds n m h (Ends stop) holds now rest = holds
  go_on_holds n m h (Looks g) holds now rest = now

  run_holds : (n : ℕ) (h : Held W F B) → HoldsBlocks h → OutHolds (run y n h)
  run_holds zero h holds = over_holds zero h (y.over h) (Ended (y.spent h) zero h) holds holds
  run_holds (suc n) h holds =
      over_holds (suc n) h (y.over h) (go_on (suc n) h (run y n) (y.step h)) holds
      (go_on_holds n (suc n) h (y.step h) holds (step h holds) (λ g now. run_holds n g now))

-- ** turns

module _ {W F B L : Type 0} (x : Turns (Held W F B) L Event) (keeps : KeepsBlocks x) where
  run_keeps : (todo : List L) (said : List Said) (seen : List Event) (points : List ℕ) (out : Outcome (Held W F B))
      → OutHolds out → Holds (after_run todo said seen points out)
  run_keeps todo said seen points (Ended stop n h) holds = holds
  run_keeps todo said seen points (Waits n h) holds = holds

  pub look_keeps : (steps : ℕ) (todo : List L) (said : List Said) (seen : List Event) (points : List ℕ)
      → (begun : Begun (Held W F B)) → BegunHolds begun → Holds (after_look x steps todo said seen points begun)
  look_keeps steps todo said seen points (Says ending h) holds = holds
  look_keeps steps todo said seen points (Calls h) holds =
      run_keeps todo said seen points (run x.steps steps h) (run_holds x.steps keeps.step steps h holds)

  turn_at_keeps : (todo : List L) (phase : Phase (Held W F B)) (said : List Said) (old seen : List Event)
      → HoldsBlocks (held_in phase) → Holds (turn_at x todo phase said old seen)
  turn_at_keeps [] (Idle h) said old seen holds = holds
  turn_at_keeps (line ∷ todo) (Idle h) said old seen holds =
      look_keeps x.fuel todo said seen (length seen ∷ []) (x.begin line seen h) (keeps.begin line seen h)
  turn_at_keeps [] (Mid steps points h) said old seen holds =
      look_keeps (steps - 1) [] said seen (with_last points (length seen)) (x.resume seen h) (keeps.resume seen h)
  turn_at_keeps (line ∷ todo) (Mid steps points h) said old seen holds =
      look_keeps (steps - 1) (line ∷ todo) said seen (with_last points (length seen)) (x.resume seen h)
      (keeps.resume seen h)

  turn_keeps : (t : Thread (Held W F B) L Event) (seen : List Event) → Holds t → Holds (turn x t seen)
  turn_keeps t seen holds = turn_at_keeps t.todo t.phase t.said t.seen seen holds

-- ** orders

module _ {W F B L : Type 0} (each : ℕ → Turns (Held W F B) L Event) (event : ℕ → L → List Event → Option Event)
    (keeps : (thread : ℕ) → KeepsBlocks (each thread)) where
  abbrev World : Type 0
  World = Shared W F B L

  abbrev One : Type 0
  One = Thread (Held W F B) L Event

  -- no data is shared, and each thread holds blocks and saw a front of the history
  pub record IsOn (w : World) : Type 0 where
    pub shared : w.shared ≡ []
    pub holds : (i : ℕ) (t : One) → slice_get w.threads i ≡ Some t → Holds t
    pub saw : (i : ℕ) (t : One) → slice_get w.threads i ≡ Some t → IsFront t.seen w.events

  -- a turn of thread i is a turn of its own
  turned_is : (w : World) (i : ℕ) (t : One) → w.shared ≡ [] → Holds t
      → turned each event w i t ≡ turn (each i) t w.events
  turned_is w i t shared holds =
      ap (λ xs. without_data (turn (each i) (with_data xs t) w.events)) shared
      ∙ (ap (λ (u : One). without_data (turn (each i) u w.events)) (with_none t holds)
      ∙ without_none (turn (each i) t w.events) (turn_keeps (each i) (keeps i) t w.events holds))

  -- and it leaves no data
  none_left : (w : World) (i : ℕ) (t : One) → w.shared ≡ [] → Holds t
      → data_in (owned_by (held_in (turn (each i) (with_data w.shared t) w.events).phase)) ≡ []
  none_left w i t shared holds =
      ap (λ xs. data_in (owned_by (held_in (turn (each i) (with_data xs t) w.events).phase))) shared
      ∙ (ap (λ (u : One). data_in (owned_by (held_in (turn (each i) u w.events).phase))) (with_none t holds)
      ∙ no_data (held_in (turn (each i) t w.events).phase).owners
      (held_in (turn (each i) t w.events).phase).after.memory.own (turn_keeps (each i) (keeps i) t w.events holds))

  -- what its turn saw is a front
  turn_saw : (i : ℕ) (t : One) (events later : List Event) → IsFront t.seen events → IsFront events later
      → IsFront (turn (each i) t events).seen later
  turn_saw i t events later saw front =
      (elim (turn-seen (each i) t events)
      as (λ (k : IsFinished t.todo t.phase ⊎ ((turn (each i) t events).seen ≡ events)).
      IsFront (turn (each i) t events).seen later) [
        | inl done ↦ subst (λ (u : One). IsFront u.seen later) (sym (turn-finished (each i) t events done))
            (front-trans each event t.seen events later saw front)
        | inr e ↦ subst (λ (seen : List Event). IsFront seen later) (sym e) front
      ])

  -- whatever holds of the one that took the turn, and of the others as they were
  at_set : (P : One → Type 0) (threads : List One) (i j : ℕ) (u v t : One) → slice_get threads j ≡ Some u → P v
      → ((t : One) → slice_get threads i ≡ Some t → P t) → slice_get (slice_set threads j v) i ≡ Some t → P t
  at_set P threads i j u v t at new old found =
      (elim (get-set threads i j v)
      as (λ (o : (j ≡ i) ⊎ (slice_get (slice_set threads j v) i ≡ slice_get threads i)). P t) [
        | inl here ↦
            let own : slice_get (slice_set threads j v) j ≡ Some v = get-set_same threads j u v at in
            let same : v ≡ t = cc in
            subst P same new
        | inr other ↦ let mine : slice_get threads i ≡ Some t = cc in old t mine
      ])

  some_on : (w : World) (j : ℕ) (u : One) → slice_get w.threads j ≡ Some u → IsOn w
      → IsOn (shared_turn each event w (suc j) (Some u))
  some_on w j u at on =
      let holds = on.holds j u at in
      let is = turned_is w (suc j) u on.shared holds in
      let front = turn-front each event w (suc j) (Some u) in
      let later = (shared_turn each event w (suc j) (Some u)).events in
      record {
        shared = none_left w (suc j) u on.shared holds;
        holds = λ i t found.
            at_set Holds w.threads i j u (turned each event w (suc j) u) t at
            (subst Holds (sym is) (turn_keeps (each (suc j)) (keeps (suc j)) u w.events holds))
            (λ t mine. on.holds i t mine) found;
        saw = λ i t found.
            at_set (λ t. IsFront t.seen later) w.threads i j u (turned each event w (suc j) u) t at
            (subst (λ (v : One). IsFront v.seen later) (sym is)
            (turn_saw (suc j) u w.events later (on.saw j u at) front))
            (λ t mine. front-trans each event t.seen w.events later (on.saw i t mine) front) found;
      }

  -- the turns of thread i are its own
  pub record AtPoints (t : One) (i : ℕ) (w : World) : Type 0 where
    pub points : List (List Event)
    pub rises : Rises IsFront t.seen points
    pub fronts : AllFronts points w.events
    pub thread : slice_get w.threads i ≡ Some (turns (each (suc i)) t points)

  -- with one more in front
  own_points : (t : One) (i : ℕ) (events : List Event) (v : World) → IsFront t.seen events → IsFront events v.events
      → AtPoints (turn (each (suc i)) t events) i v → AtPoints t i v
  own_points t i events v saw front at =
      (elim (turn-seen (each (suc i)) t events)
      as (λ (k : IsFinished t.todo t.phase ⊎ ((turn (each (suc i)) t events).seen ≡ events)). AtPoints t i v) [
        | inl done ↦ subst (λ (u : One). AtPoints u i v) (turn-finished (each (suc i)) t events done) at
        | inr e ↦ record {
          points = events ∷ at.points;
          rises = (saw, subst (λ (old : List Event). Rises IsFront old at.points) e at.rises);
          fronts = (front, at.fronts);
          thread = at.thread;
        }
      ])

  module _ (order : List ℕ) (i : ℕ)
      (rest : (v : World) (u : One) → slice_get v.threads i ≡ Some u → IsOn v
      → AtPoints u i (shared_order each event order v)) where
    some_points : (w : World) (j : ℕ) (t u : One) → slice_get w.threads i ≡ Some t → IsOn w
        → slice_get w.threads j ≡ Some u
        → AtPoints t i (shared_order each event order (shared_turn each event w (suc j) (Some u)))
    some_points w j t u mine on at =
        let v = shared_turn each event w (suc j) (Some u) in
        let new = turned each event w (suc j) u in
        let after = some_on w j u at on in
        (elim (get-set w.threads i j new)
        as (λ (o : (j ≡ i) ⊎ (slice_get (slice_set w.threads j new) i ≡ slice_get w.threads i)).
        AtPoints t i (shared_order each event order v)) [
          | inl here ↦
              let same : u ≡ t = cc in
              let is : new ≡ turn (each (suc i)) t w.events =
              turned_is w (suc j) u on.shared (on.holds j u at)
              ∙ (ap (λ (n : ℕ). turn (each (suc n)) u w.events) here
              ∙ ap (λ (s : One). turn (each (suc i)) s w.events) same) in
              let own : slice_get (slice_set w.threads j new) j ≡ Some new = get-set_same w.threads j u new at in
              let found : slice_get v.threads i ≡ Some (turn (each (suc i)) t w.events) =
              subst (λ (n : ℕ). slice_get (slice_set w.threads j new) n ≡ Some new) here own
              ∙ ap (λ (s : One). Some s) is in
              own_points t i w.events (shared_order each event order v) (on.saw i t mine)
              (front-trans each event w.events v.events (shared_order each event order v).events
              (turn-front each event w (suc j) (Some u)) (order-front each event order v))
              (rest v (turn (each (suc i)) t w.events) found after)
          | inr other ↦ rest v t (other ∙ mine) after
        ])

    taken_points : (w : World) (j : ℕ) (t : One) → slice_get w.threads i ≡ Some t → IsOn w
        → AtPoints t i (shared_order each event order (taken each event w j))
    taken_points w zero t mine on = rest w t mine on
    taken_points w (suc j) t mine on =
        (elim (slice_get w.threads j)
        as (λ (o : Option One). slice_get w.threads j ≡ o
        → AtPoints t i (shared_order each event order (shared_turn each event w (suc j) o))) [
          | None ↦ λ at. rest w t mine on
          | Some u ↦ λ at. some_points w j t u mine on at
        ]) refl

  pub order_points : (order : List ℕ) (i : ℕ) (w : World) (t : One) → slice_get w.threads i ≡ Some t → IsOn w
      → AtPoints t i (shared_order each event order w)
  order_points [] i w t mine on = record { points = []; rises = tt; fronts = tt; thread = mine }
  order_points (j ∷ order) i w t mine on =
      taken_points order i (λ v u found on. order_points order i v u found on) w j t mine on
