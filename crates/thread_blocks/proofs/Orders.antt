-- Orders of threads that share data: the history only grows, and a whole order brings each thread to its end.
use Rattle.std.proofs.Common.{◌≡◌, ◌⊎◌, ◌∙◌, ℕ, zero, suc, ◌+◌, ◌-◌, ◌<◌, ◌≤◌, List, [], ◌∷◌, ◌++◌, length, replicate}
use Rattle.std.proofs.Common.{Option, Some, None, refl, sym, ap, subst, inl, inr, arith, append_assoc, append-nil}
use Rattle.std.specs.Prelude.{slice_get, slice_set}
use native.Mathlib.Nat.{mul-suc, mul-zero}
use Rattle.guest_operands.specs.declared.stop.Stop.{Stop}
use Rattle.guest_machine.specs.Run.{Next, Goes, Ends, Looks, Outcome, Ended, Waits, Stepping, over_or, go_on, run}
use Rattle.module_table.specs.declared.events.Event.{Event}
use Rattle.thread_blocks.specs.Held.{Held, owned_by, with_owned}
use Rattle.thread_blocks.specs.JobWorlds.{Shared, blocks_in, changed, shared_order, shared_turn, with_data}
use Rattle.thread_blocks.specs.JobWorlds.{without_data}
use Rattle.thread_blocks.specs.Turns.{Said, Begun, Says, Calls, Turns, Phase, Idle, Mid, Thread, after_run, after_look}
use Rattle.thread_blocks.specs.Turns.{at_number, turn_at, turn, with_event, event_of, IsFinished, enough, turns_left}
use Rattle.thread_blocks.specs.Turns.{finishing, whole_order}
use Rattle.thread_blocks.specs.Turns.{IsFront}
use Rattle.thread_blocks.proofs.Turns.{turn-finished}

-- ** a list with another element in a place

module _ {X : Type 0} where
  pub get-set_same : (xs : List (X)) (i : ℕ) (t u : X) → slice_get xs i ≡ Some t
      → slice_get (slice_set xs i u) i ≡ Some u
  get-set_same [] i t u e = cc
  get-set_same (first ∷ xs) zero t u e = refl
  get-set_same (first ∷ xs) (suc i) t u e = get-set_same xs i t u e

  pub get-set : (xs : List (X)) (i j : ℕ) (u : X) → (j ≡ i) ⊎ (slice_get (slice_set xs j u) i ≡ slice_get xs i)
  get-set [] i j u = inr refl
  get-set (first ∷ xs) zero zero u = inl refl
  get-set (first ∷ xs) (suc i) zero u = inr refl
  get-set (first ∷ xs) zero (suc j) u = inr refl
  get-set (first ∷ xs) (suc i) (suc j) u =
      (elim (get-set xs i j u) as
      (λ (k : (j ≡ i) ⊎ (slice_get (slice_set xs j u) i ≡ slice_get xs i)). (suc j ≡ suc i)
      ⊎ (slice_get (slice_set xs j u) i ≡ slice_get xs i)) [
        | inl e ↦ inl (ap suc e)
        | inr e ↦ inr e
      ])

-- ** a wait leaves fewer steps, and one at least

abbrev LeftWithin : {S : Type 0} → ℕ → Outcome S → Type 0
LeftWithin n (Ended stop left s) = Unit {0}
LeftWithin n (Waits left s) = (1 ≤ left) × (left ≤ n)

module _ {S : Type 0} (x : Stepping S) where
  more-within : (n m : ℕ) → n ≤ m → (out : Outcome S) → LeftWithin n out → LeftWithin m out
  more-within n m le (Ended stop left s) h = tt
  more-within n m le (Waits left s) h = (h.0, omega (arith, h.1))

  over-within : (k n : ℕ) (s : S) (over : Option Stop) (rest : Outcome S) → LeftWithin n rest
      → LeftWithin n (over_or k s over rest)
  over-within k n s None rest h = h
  over-within k n s (Some stop) rest h = tt

  go_on-within : (n : ℕ) (s : S) (next : Next S) → ((t : S) → LeftWithin n (run x n t))
      → LeftWithin (suc n) (go_on (suc n) s (run x n) next)
  go_on-within n s (Goes t) rest = more-within n (suc n) (omega arith) (run x n t) (rest t)
  go_on-within n s (Ends stop) rest = tt
  go_on-within n s (Looks t) rest = (omega arith, omega arith)

  run-within : (n : ℕ) (s : S) → LeftWithin n (run x n s)
  run-within zero s = over-within zero zero s (x.over s) (Ended (x.spent s) zero s) tt
  run-within (suc n) s = over-within (suc n) (suc n) s (x.over s) (go_on (suc n) s (run x n) (x.step s))
      (go_on-within n s (x.step s) (λ t. run-within n t))

-- ** a turn that does something leaves fewer

module _ {S L E : Type 0} (x : Turns S L E) (fuel : ℕ) (within : x.fuel ≤ fuel) where
  abbrev pub left_of : Thread S L E → ℕ
  left_of t = turns_left fuel t.todo t.phase

  run-less : (n k : ℕ) → 1 ≤ k → ((left : ℕ) → 1 ≤ left → left ≤ n → left + 1 < k)
      → (todo : List L) (said : List Said) (seen : List E) (points : List ℕ) (out : Outcome S) → LeftWithin n out
      → left_of (after_run todo said seen points out) < enough fuel (length todo) + k
  run-less n k some less todo said seen points (Ended stop left s) h = omega arith
  run-less n k some less todo said seen points (Waits left s) h = let fewer = less left h.0 h.1 in omega arith

  look-less : (n k : ℕ) → 1 ≤ k → ((left : ℕ) → 1 ≤ left → left ≤ n → left + 1 < k)
      → (todo : List L) (said : List Said) (seen : List E) (points : List ℕ) (b : Begun S)
      → left_of (after_look x n todo said seen points b) < enough fuel (length todo) + k
  look-less n k some less todo said seen points (Says ending s) = omega arith
  look-less n k some less todo said seen points (Calls s) =
      run-less n k some less todo said seen points (run x.steps n s) (run-within x.steps n s)

  turn_at-less : (todo : List L) (phase : Phase S) (said : List Said) (old seen : List E)
      → IsFinished todo phase ⊎ (left_of (turn_at x todo phase said old seen) < turns_left fuel todo phase)
  turn_at-less [] (Idle s) said old seen = inl tt
  turn_at-less (line ∷ todo) (Idle s) said old seen =
      inr (rw (mul-suc (fuel + 2) (length todo))
      (look-less x.fuel (fuel + 2) (omega arith) (λ left some most. omega arith) todo said seen _
      (x.begin line seen s)))
  turn_at-less [] (Mid left points s) said old seen =
      inr (look-less (left - 1) (left + 1) (omega arith) (λ now some most. omega arith) [] said seen _
      (x.resume seen s))
  turn_at-less (line ∷ todo) (Mid left points s) said old seen =
      inr (look-less (left - 1) (left + 1) (omega arith) (λ now some most. omega arith) (line ∷ todo) said seen _
      (x.resume seen s))

  none-left : (todo : List L) (phase : Phase S) → IsFinished todo phase → turns_left fuel todo phase ≡ 0
  none-left [] (Idle s) h = mul-zero (fuel + 2)
  none-left (line ∷ todo) (Idle s) h = absurd h
  none-left [] (Mid left points s) h = absurd h
  none-left (line ∷ todo) (Mid left points s) h = absurd h

  is-finished : (todo : List L) (phase : Phase S) → turns_left fuel todo phase ≤ 0 → IsFinished todo phase
  is-finished [] (Idle s) h = tt
  is-finished (line ∷ todo) (Idle s) h = let more = mul-suc (fuel + 2) (length todo) in absurd (omega arith)
  is-finished [] (Mid left points s) h = absurd (omega arith)
  is-finished (line ∷ todo) (Mid left points s) h = absurd (omega arith)

  turn-fewer : (t : Thread S L E) (seen : List E) (k : ℕ) → left_of t ≤ suc k → left_of (turn x t seen) ≤ k
  turn-fewer t seen k h =
      (elim (turn_at-less t.todo t.phase t.said t.seen seen) as
      (λ (o : IsFinished t.todo t.phase ⊎ (left_of (turn x t seen) < left_of t)). left_of (turn x t seen) ≤ k) [
        | inl done ↦ subst (λ (u : Thread S L E). left_of u ≤ k) (sym (turn-finished x t seen done))
            (let none = none-left t.todo t.phase done in omega arith)
        | inr less ↦ omega arith
      ])

  turn-no-more : (t : Thread S L E) (seen : List E) (k : ℕ) → left_of t ≤ k → left_of (turn x t seen) ≤ k
  turn-no-more t seen k h =
      (elim (turn_at-less t.todo t.phase t.said t.seen seen) as
      (λ (o : IsFinished t.todo t.phase ⊎ (left_of (turn x t seen) < left_of t)). left_of (turn x t seen) ≤ k) [
        | inl done ↦ subst (λ (u : Thread S L E). left_of u ≤ k) (sym (turn-finished x t seen done)) h
        | inr less ↦ omega arith
      ])

-- ** threads that share data

module _ {W F B L : Type 0} where
  -- data in a thread's hands is nothing to do
  left_changed : (f : Held W F B → Held W F B) (fuel : ℕ) (todo : List L) (phase : Phase (Held W F B))
      → turns_left fuel todo (changed f phase) ≡ turns_left fuel todo phase
  left_changed f fuel todo (Idle h) = refl
  left_changed f fuel todo (Mid steps points h) = refl

module _ {W F B L : Type 0} (x : ℕ → Turns (Held W F B) L Event) (event : ℕ → L → List Event → Option Event) where
  abbrev pub Ours : Type 0
  Ours = Thread (Held W F B) L Event

  -- what a turn makes of thread i
  abbrev pub turned : Shared W F B L → ℕ → Ours → Ours
  turned w i t = without_data (turn (x i) (with_data w.shared t) w.events)

  -- an entry of an order
  abbrev pub taken : Shared W F B L → ℕ → Shared W F B L
  taken w i = shared_turn x event w i (at_number w.threads i)

  -- ** the history only grows

  event-front : (events : List Event) (e : Option Event) → IsFront events (with_event events e)
  event-front events None = ([], sym (append-nil events))
  event-front events (Some e) = (e ∷ [], refl)

  pub front-trans : (a b c : List Event) → IsFront a b → IsFront b c → IsFront a c
  front-trans a b c h k = (h.0 ++ k.0, k.1 ∙ (ap (λ z. z ++ k.0) h.1 ∙ append_assoc a h.0 k.0))

  pub turn-front : (w : Shared W F B L) (i : ℕ) (t : Option Ours) → IsFront w.events (shared_turn x event w i t).events
  turn-front w i None = ([], sym (append-nil w.events))
  turn-front w i (Some t) = event-front w.events (event_of (event i) t w.events)

  pub order-front : (order : List ℕ) (w : Shared W F B L) → IsFront w.events (shared_order x event order w).events
  order-front [] w = ([], sym (append-nil w.events))
  order-front (i ∷ order) w = front-trans w.events (taken w i).events (shared_order x event order (taken w i)).events
      (turn-front w i (at_number w.threads i)) (order-front order (taken w i))

  -- ** each thread comes to its end

  module _ (fuel : ℕ) (within : (i : ℕ) → (x i).fuel ≤ fuel) where
    abbrev to_do : Ours → ℕ
    to_do t = turns_left fuel t.todo t.phase

    turned-fewer : (w : Shared W F B L) (i : ℕ) (t : Ours) (k : ℕ) → to_do t ≤ suc k → to_do (turned w i t) ≤ k
    turned-fewer w i t k h =
        let new = turn (x i) (with_data w.shared t) w.events in
        let into = left_changed (λ held. with_owned held (owned_by held ++ w.shared)) fuel t.todo t.phase in
        let out = left_changed (λ held. with_owned held (blocks_in (owned_by held))) fuel new.todo new.phase in
        let less = turn-fewer (x i) fuel (within i) (with_data w.shared t) w.events k (omega (arith, into, h)) in
        omega (arith, out, less)

    turned-no-more : (w : Shared W F B L) (i : ℕ) (t : Ours) (k : ℕ) → to_do t ≤ k → to_do (turned w i t) ≤ k
    turned-no-more w i t k h =
        let new = turn (x i) (with_data w.shared t) w.events in
        let into = left_changed (λ held. with_owned held (owned_by held ++ w.shared)) fuel t.todo t.phase in
        let out = left_changed (λ held. with_owned held (blocks_in (owned_by held))) fuel new.todo new.phase in
        let less = turn-no-more (x i) fuel (within i) (with_data w.shared t) w.events k (omega (arith, into, h)) in
        omega (arith, out, less)

    -- thread i is there, with at most so many turns to do
    abbrev pub HasLeft : Shared W F B L → ℕ → ℕ → Type 0
    HasLeft w i k = (t : Ours) × ((slice_get w.threads i ≡ Some t) × (to_do t ≤ k))

    -- what the turn of thread j leaves to thread i
    set-left : (w : Shared W F B L) (i j k : ℕ) (u : Ours) → slice_get w.threads j ≡ Some u → HasLeft w i k
        → HasLeft (shared_turn x event w (suc j) (Some u)) i k
    set-left w i j k u at h =
        let v = turned w (suc j) u in
        (elim (get-set w.threads i j v)
        as (λ (o : (j ≡ i) ⊎ (slice_get (slice_set w.threads j v) i ≡ slice_get w.threads i)).
        (t : Ours) × ((slice_get (slice_set w.threads j v) i ≡ Some t) × (to_do t ≤ k))) [
          | inl here ↦
              let mine = h.1.0 in
              let same : h.0 ≡ u = cc in (
                v,
                (
                  subst (λ (n : ℕ). slice_get (slice_set w.threads j v) n ≡ Some v) here
                      (get-set_same w.threads j u v at),
                  turned-no-more w (suc j) u k (subst (λ (t : Ours). to_do t ≤ k) same h.1.1),
                ),
              )
          | inr other ↦ (h.0, (other ∙ h.1.0, h.1.1))
        ])

    taken-left : (w : Shared W F B L) (i j k : ℕ) → HasLeft w i k → HasLeft (taken w j) i k
    taken-left w i zero k h = h
    taken-left w i (suc j) k h =
        (elim (slice_get w.threads j)
        as (λ (o : Option Ours). slice_get w.threads j ≡ o → HasLeft (shared_turn x event w (suc j) o) i k) [
          | None ↦ λ at. h
          | Some u ↦ λ at. set-left w i j k u at h
        ]) refl

    -- and to itself
    set-fewer : (w : Shared W F B L) (i k : ℕ) (u : Ours) → slice_get w.threads i ≡ Some u → HasLeft w i (suc k)
        → HasLeft (shared_turn x event w (suc i) (Some u)) i k
    set-fewer w i k u at h =
        let mine = h.1.0 in
        let same : h.0 ≡ u = cc in (
          turned w (suc i) u,
          (
            get-set_same w.threads i u (turned w (suc i) u) at,
            turned-fewer w (suc i) u k (subst (λ (t : Ours). to_do t ≤ suc k) same h.1.1),
          ),
        )

    none-there : (w : Shared W F B L) (i k : ℕ) → slice_get w.threads i ≡ None → HasLeft w i (suc k) → ⊥
    none-there w i k at h = let mine = h.1.0 in cc

    own-left : (w : Shared W F B L) (i k : ℕ) → HasLeft w i (suc k) → HasLeft (taken w (suc i)) i k
    own-left w i k h =
        (elim (slice_get w.threads i)
        as (λ (o : Option Ours). slice_get w.threads i ≡ o → HasLeft (shared_turn x event w (suc i) o) i k) [
          | None ↦ λ at. absurd (none-there w i k at h)
          | Some u ↦ λ at. set-fewer w i k u at h
        ]) refl

    order-left : (order : List ℕ) (w : Shared W F B L) (i k : ℕ) → HasLeft w i k
        → HasLeft (shared_order x event order w) i k
    order-left [] w i k h = h
    order-left (j ∷ order) w i k h = order-left order (taken w j) i k (taken-left w i j k h)

    turns-left : (n : ℕ) (w : Shared W F B L) (i : ℕ) → HasLeft w i n
        → HasLeft (shared_order x event (replicate n (suc i)) w) i 0
    turns-left zero w i h = h
    turns-left (suc n) w i h = turns-left n (taken w (suc i)) i (own-left w i n h)

    order-append : (order more : List ℕ) (w : Shared W F B L)
        → shared_order x event (order ++ more) w ≡ shared_order x event more (shared_order x event order w)
    order-append [] more w = refl
    order-append (i ∷ order) more w = order-append order more (taken w i)

    finishing-ends : {A : Type 0} (lines : List (List A)) (first : ℕ) (w : Shared W F B L) (i : ℕ) (mine : List A)
        → slice_get lines i ≡ Some mine → HasLeft w (first + i) (enough fuel (length mine))
        → HasLeft (shared_order x event (finishing fuel (suc first) lines) w) (first + i) 0
    finishing-ends [] first w i mine at h = cc
    finishing-ends {A} (own ∷ lines) first w zero mine at h =
        let same : own ≡ mine = cc in
        let here : first + 0 ≡ first = omega arith in
        let turns = replicate (enough fuel (length own)) (suc first) in
        let start : HasLeft w first (enough fuel (length own)) =
        subst (λ (k : ℕ). HasLeft w k (enough fuel (length own))) here
        (subst (λ (l : List A). HasLeft w (first + 0) (enough fuel (length l))) (sym same) h) in
        rw (here, order-append turns (finishing fuel (suc (suc first)) lines) w)
        (order-left (finishing fuel (suc (suc first)) lines) (shared_order x event turns w) first 0
        (turns-left (enough fuel (length own)) w first start))
    finishing-ends (own ∷ lines) first w (suc i) mine at h =
        let there : first + suc i ≡ suc first + i = omega arith in
        let turns = replicate (enough fuel (length own)) (suc first) in
        rw (there, order-append turns (finishing fuel (suc (suc first)) lines) w)
        (finishing-ends lines (suc first) (shared_order x event turns w) i mine at
        (order-left turns w (suc first + i) (enough fuel (length mine))
        (subst (λ (k : ℕ). HasLeft w k (enough fuel (length mine))) there h)))

    -- the law: where thread i has no more to do than its lines, the whole order brings it to its end
    pub order_ends : {A : Type 0} (lines : List (List A)) (order : List ℕ) (w : Shared W F B L) (i : ℕ) (mine : List A)
        → slice_get lines i ≡ Some mine → HasLeft w i (enough fuel (length mine))
        → (t : Ours) × ((slice_get (shared_order x event (whole_order fuel lines order) w).threads i ≡ Some t)
        × IsFinished t.todo t.phase)
    order_ends lines order w i mine at h =
        let here : 0 + i ≡ i = omega arith in
        let now : HasLeft (shared_order x event order w) (0 + i) (enough fuel (length mine)) =
        rw here (order-left order w i (enough fuel (length mine)) h) in
        let ended : HasLeft (shared_order x event (finishing fuel 1 lines) (shared_order x event order w)) i 0 =
        rw here at (finishing-ends lines 0 (shared_order x event order w) i mine at now) in
        let over : HasLeft (shared_order x event (whole_order fuel lines order) w) i 0 =
        rw (order-append order (finishing fuel 1 lines) w) ended in
        (over.0, (over.1.0, is-finished (x (suc i)) fuel (within (suc i)) over.0.todo over.0.phase over.1.1))
