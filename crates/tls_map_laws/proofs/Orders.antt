-- In any order of turns each thread of a job has what the map says, whatever the others do.
use Rattle.std.proofs.Common.{◌≡◌, ◌∙◌, ◌++◌, ◌==◌, ℕ, zero, suc, true, false, List, [], ◌∷◌, Option, Some, None, refl}
use Rattle.std.proofs.Common.{sym, ap, subst, inl, inr, append-nil}
use Rattle.std.specs.Prelude.{slice_get, slice_set}
use Rattle.std.proofs.lemmas.Bool.{cases_Bool, eq-eqb, eqb-true}
use Rattle.guest_machine.specs.Run.{run}
use Rattle.guest_machine.specs.RunLaws.{state_after}
use Rattle.loaded_modules.specs.declared.instance.Instance.{Instance}
use Rattle.module_table.specs.declared.events.Event.{Event}
use Rattle.shared_data.specs.Told.{steps_of}
use Rattle.thread_blocks.specs.Held.{Held, Owned, owned_by, with_owned}
use Rattle.thread_blocks.specs.Instances.{Loads, instances}
use Rattle.thread_blocks.specs.JobWorlds.{Shared, blocks_in, changed, data_in, held_in, shared_order, shared_turn}
use Rattle.thread_blocks.specs.JobWorlds.{with_data, without_data}
use Rattle.thread_blocks.specs.Lines.{Line, event_by}
use Rattle.thread_blocks.specs.Turns.{Phase, Idle, Mid, Said, Thread, Turns, at_number, event_of, turn, with_event}
use Rattle.thread_blocks.specs.Turns.{IsFront}
use Rattle.thread_blocks.proofs.Orders.{get-set, get-set_same, order-front}
use Rattle.tls_map_laws.specs.Map.{Act, has_storage}
use Rattle.tls_map_laws.specs.Told.{look_acts, order_acts, run_acts, shared_acts, turn_acts}
use Rattle.tls_map_laws.proofs.Entries.{AreData, blocks}
use Rattle.tls_map_laws.proofs.Known.{Known, front_then}
use Rattle.tls_map_laws.proofs.Keeping.{held_is}
use Rattle.tls_map_laws.proofs.Begins.{FitsBy, front_of}
use Rattle.tls_map_laws.proofs.Lent.{lent_fits, taken_fits}
use Rattle.tls_map_laws.proofs.Turns.{KeepsMap, seen_front, turn_fits, within_fits}

module _ {W F B : Type 0} where
  held_changed : (f : Held W F B → Held W F B) (phase : Phase (Held W F B))
      → held_in (changed f phase) ≡ f (held_in phase)
  held_changed f (Idle h) = refl
  held_changed f (Mid steps points h) = refl

  -- the event of a thread's turn is the same with the data in its hands
  same_event : (event : Line → List Event → Option Event) (xs : List (Owned B)) (seen : List Event) (todo : List Line)
      (phase : Phase (Held W F B)) (said : List Said) (old : List Event)
      → let t : Thread (Held W F B) Line Event = record { todo = todo; phase = phase; said = said; seen = old } in
      event_of event (with_data xs t) seen ≡ event_of event t seen
  same_event event xs seen [] phase said old = refl
  same_event event xs seen (line ∷ todo) (Idle h) said old = refl
  same_event event xs seen (line ∷ todo) (Mid steps points h) said old = refl

module _ {B : Type 0} (l : Loads B) (thread : ℕ) where
  data_only : (rest : List (Owned B)) → AreData rest → AreData (data_in rest)
  data_only [] are = tt
  data_only (x ∷ xs) are = let kind = are.0.kind in rw kind (are.0, data_only xs are.1)

  -- what is given back of blocks and data are the data
  data_left : (acts : List (Act B)) (ys : List Instance) (rest : List (Owned B)) → AreData rest
      → AreData (data_in (blocks l thread acts ys ++ rest))
  data_left acts [] rest are = data_only rest are
  data_left acts (y ∷ ys) rest are = elim (cases_Bool (has_storage y.number acts)) [
    | inl t ↦ rw t (data_left acts ys rest are)
    | inr f ↦ rw f (data_left acts ys rest are)
  ]

module _ {W F B : Type 0} (l : Loads B) (x : ℕ → Turns (Held W F B) Line Event)
    (step_acts : ℕ → List (Act B) → Held W F B → List (Act B)) (asks : ℕ → List Event → Held W F B → Option Instance)
    (keeps : (thread : ℕ) (history : List Event) (known : Known l thread history)
    → KeepsMap l thread history known (x thread) (step_acts thread) (asks thread))
    (history : List Event) (known : (thread : ℕ) → Known l thread history) where
  abbrev Ours : Type 0
  Ours = Thread (Held W F B) Line Event

  abbrev event : ℕ → Line → List Event → Option Event
  event thread = event_by l thread

  abbrev Fit : ℕ → List (Act B) → Held W F B → Type 0
  Fit thread acts h = FitsBy l thread history (known thread) acts h

  -- a job's threads, each of which did this
  pub record AllFit (acts : ℕ → List (Act B)) (w : Shared W F B Line) : Type 0 where
    pub low : AreData w.shared
    pub all : (i : ℕ) (t : Ours) → slice_get w.threads i ≡ Some t
        → Fit (suc i) (acts (suc i)) (held_in t.phase) × IsFront (held_in t.phase).after.memory.seen w.events

  -- ** a thread that takes its turn has the data

  lent : (thread : ℕ) (acts : List (Act B)) (xs : List (Owned B)) (t : Ours) → AreData xs
      → Fit thread acts (held_in t.phase)
      → Fit thread acts (held_in (with_data xs t).phase)
  lent thread acts xs t are fits =
      subst (Fit thread acts) (sym (held_changed (λ (h : Held W F B). with_owned h (owned_by h ++ xs)) t.phase))
      (lent_fits l thread history (known thread) acts (held_in t.phase) xs are fits)

  taken : (thread : ℕ) (acts : List (Act B)) (t : Ours) → Fit thread acts (held_in t.phase)
      → Fit thread acts (held_in (without_data t).phase)
  taken thread acts t fits =
      subst (Fit thread acts) (sym (held_changed (λ (h : Held W F B). with_owned h (blocks_in (owned_by h))) t.phase))
      (taken_fits l thread history (known thread) acts (held_in t.phase) fits)

  given : (thread : ℕ) (acts : List (Act B)) (h : Held W F B) → Fit thread acts h → AreData (data_in (owned_by h))
  given thread acts h fits =
      let held = held_is l thread history (known thread) acts h.after.memory.seen h.owners h.after.memory.own fits in
      subst (λ (xs : List (Owned B)). AreData (data_in xs)) (sym held)
      (data_left l thread acts (instances l h.after.memory.seen) fits.rest fits.data_behind)

  seen_with : (xs : List (Owned B)) (t : Ours)
      → (held_in (with_data xs t).phase).after.memory.seen ≡ (held_in t.phase).after.memory.seen
  seen_with xs t =
      ap (λ (h : Held W F B). h.after.memory.seen)
      (held_changed (λ (h : Held W F B). with_owned h (owned_by h ++ xs)) t.phase)

  seen_without : (t : Ours) → (held_in (without_data t).phase).after.memory.seen ≡ (held_in t.phase).after.memory.seen
  seen_without t =
      ap (λ (h : Held W F B). h.after.memory.seen)
      (held_changed (λ (h : Held W F B). with_owned h (blocks_in (owned_by h))) t.phase)

  onward : (seen events : List Event) (e : Option Event) → IsFront seen events → IsFront seen (with_event events e)
  onward seen events e front = front_then seen events (with_event events e) front
      (front_of events e (with_event events e) ([], sym (append-nil (with_event events e))))

  -- a thread in its turn, with the data in its hands
  pub record InTurn (acts : List (Act B)) (i : ℕ) (t : Ours) (seen : List Event) : Type 0 where
    pub fits : Fit (suc i) acts (held_in t.phase)
    pub front : IsFront (held_in t.phase).after.memory.seen seen
    pub mine : IsFront (with_event seen (event_of (event (suc i)) t seen)) history

  in_turn : (acts : ℕ → List (Act B)) (w : Shared W F B Line) → AllFit acts w → (i : ℕ) (t : Ours)
      → slice_get w.threads i ≡ Some t → IsFront (with_event w.events (event_of (event (suc i)) t w.events)) history
      → InTurn (acts (suc i)) i (with_data w.shared t) w.events
  in_turn acts w all i t at mine =
      let own = all.all i t at in
      record {
        fits = lent (suc i) (acts (suc i)) w.shared t all.low own.0;
        front = subst (λ (s : List Event). IsFront s w.events) (sym (seen_with w.shared t)) own.1;
        mine = subst (λ (e : Option Event). IsFront (with_event w.events e) history)
            (sym (same_event (event (suc i)) w.shared w.events t.todo t.phase t.said t.seen)) mine;
      }

  -- ** a turn

  abbrev all_acts : ℕ → Shared W F B Line → Option Ours → (ℕ → List (Act B)) → ℕ → List (Act B)
  all_acts j w o acts i = shared_acts l x step_acts asks i j w o (acts i)

  turn_fit : (acts : ℕ → List (Act B)) (w : Shared W F B Line) (j : ℕ) (o : Option Ours) → at_number w.threads j ≡ o
      → AllFit acts w → IsFront (shared_turn x event w j o).events history
      → AllFit (all_acts j w o acts) (shared_turn x event w j o)
  turn_fit acts w j None at all mine = all
  turn_fit acts w zero (Some t) at all mine = cc
  turn_fit acts w (suc i) (Some t) at all mine =
      let t' = with_data w.shared t in
      let own = in_turn acts w all i t at mine in
      let after = turn (x (suc i)) t' w.events in
      let did = turn_acts l (suc i) (x (suc i)) (step_acts (suc i)) (asks (suc i)) t' w.events (acts (suc i)) in
      let now = turn_fits l (suc i) history (known (suc i)) (x (suc i)) (step_acts (suc i)) (asks (suc i))
      (keeps (suc i) history (known (suc i))) (acts (suc i)) t' w.events own.fits own.front own.mine in
      let e = event_of (event (suc i)) t w.events in
      let saw = subst (λ (e : Option Event). IsFront (held_in after.phase).after.memory.seen (with_event w.events e))
      (same_event (event (suc i)) w.shared w.events t.todo t.phase t.said t.seen)
      (seen_front l (suc i) (x (suc i)) (step_acts (suc i)) (asks (suc i)) (keeps (suc i)) history (known (suc i))
      (acts (suc i)) t' w.events own.fits own.front own.mine) in
      let new = without_data after in
      record {
        low = given (suc i) did (held_in after.phase) now;
        all = λ k u there. elim (cases_Bool (suc i == suc k)) [
          | inl same ↦
              let is : i ≡ k = (let s = eqb-true (suc i) (suc k) same in cc) in
              let mine : slice_get (slice_set w.threads i new) k ≡ Some new =
              subst (λ (n : ℕ). slice_get (slice_set w.threads i new) n ≡ Some new) is
              (get-set_same w.threads i t new at) in
              let one : new ≡ u = (let both : Some new ≡ Some u = sym mine ∙ there in let s = both in cc) in
              let fit : Fit (suc i) did (held_in u.phase) = subst (λ (v : Ours). Fit (suc i) did (held_in v.phase)) one
              (taken (suc i) did after now) in
              rw same (
                subst (λ (n : ℕ). Fit (suc n)
                    (turn_acts l (suc n) (x (suc n)) (step_acts (suc n)) (asks (suc n)) t' w.events
                    (acts (suc n))) (held_in u.phase)) is fit,
                subst (λ (v : Ours). IsFront (held_in v.phase).after.memory.seen (with_event w.events e)) one
                    (subst (λ (s : List Event). IsFront s (with_event w.events e)) (sym (seen_without after)) saw),
              )
          | inr other ↦ rw other (elim (get-set w.threads k i new) [
            | inl same ↦ absurd (
                let yes = eq-eqb (suc i) (suc k) (ap suc same) in
                let both : true ≡ false = sym yes ∙ other in cc)
            | inr elsewhere ↦
                let old = all.all k u (sym elsewhere ∙ there) in
                (old.0, onward (held_in u.phase).after.memory.seen w.events e old.1)
          ])
        ];
      }

  -- ** an order of turns

  abbrev acts_in : List ℕ → Shared W F B Line → (ℕ → List (Act B)) → ℕ → List (Act B)
  acts_in order w acts i = order_acts l x step_acts asks i order w (acts i)

  pub order_fit : (order : List ℕ) (acts : ℕ → List (Act B)) (w : Shared W F B Line) → AllFit acts w
      → IsFront (shared_order x event order w).events history
      → AllFit (acts_in order w acts) (shared_order x event order w)
  order_fit [] acts w all mine = all
  order_fit (j ∷ order) acts w all mine =
      let o = at_number w.threads j in
      let next = shared_turn x event w j o in
      order_fit order (all_acts j w o acts) next
      (turn_fit acts w j o refl all
      (front_then next.events (shared_order x event order next).events history (order-front x event order next) mine))
      mine

  -- a thread between its turns
  pub thread_fit : (acts : ℕ → List (Act B)) (w : Shared W F B Line) → AllFit acts w → (thread : ℕ) (t : Ours)
      → at_number w.threads thread ≡ Some t → Fit thread (acts thread) (held_in t.phase)
  thread_fit acts w all zero t at = cc
  thread_fit acts w all (suc i) t at = (all.all i t at).0

  -- and after any steps of the next one
  pub thread_within : (acts : ℕ → List (Act B)) (w : Shared W F B Line) → AllFit acts w → (thread : ℕ) (t : Ours)
      → at_number w.threads thread ≡ Some t
      → IsFront (with_event w.events (event_of (event thread) t w.events)) history
      → (from : ℕ × Held W F B) (n : ℕ) → let t' = with_data w.shared t in
      steps_of (x thread) t'.todo t'.phase w.events ≡ Some from
      → Fit thread (run_acts l thread (x thread) (step_acts thread) (asks thread) n from.1
      (look_acts l thread (x thread) (step_acts thread) (asks thread) t'.todo t'.phase w.events (acts thread)))
      (state_after (run (x thread).steps n from.1))
  thread_within acts w all zero t at mine from n begun = cc
  thread_within acts w all (suc i) t at mine from n begun =
      let own = in_turn acts w all i t at mine in
      within_fits l (suc i) history (known (suc i)) (x (suc i)) (step_acts (suc i)) (asks (suc i))
      (keeps (suc i) history (known (suc i))) (acts (suc i)) (with_data w.shared t) w.events from n own.fits own.front
      own.mine begun

  -- where it takes its next turn
  pub thread_stands : (acts : ℕ → List (Act B)) (w : Shared W F B Line) → AllFit acts w → (thread : ℕ) (t : Ours)
      → at_number w.threads thread ≡ Some t
      → IsFront (with_event w.events (event_of (event thread) t w.events)) history
      → Fit thread (acts thread) (held_in (with_data w.shared t).phase)
      × IsFront (held_in (with_data w.shared t).phase).after.memory.seen w.events
  thread_stands acts w all zero t at mine = cc
  thread_stands acts w all (suc i) t at mine =
      let own = in_turn acts w all i t at mine in (own.fits, own.front)
