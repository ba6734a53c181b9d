-- The looks of a thread in an order of turns are those that its lines tell.
use Rattle.std.proofs.Common.{◌≡◌, ◌∙◌, ◌++◌, ◌==◌, ◌&&◌, ℕ, zero, suc, Bool, true, false, not, List, [], ◌∷◌, length}
use Rattle.std.proofs.Common.{Option, Some, None, refl, sym, ap, subst, inl, inr, arith, append-nil, append_assoc}
use Rattle.std.proofs.Common.{ne_eqb, eq-eqb}
use Rattle.std.specs.Prelude.{option_and_then, slice_get, slice_set}
use Rattle.std.proofs.lemmas.Bool.{cases_eq}
use Rattle.std.proofs.lemmas.List.{map-append}
use Rattle.module_table.specs.declared.events.Event.{Event}
use Rattle.thread_blocks.specs.Held.{Held, owned_by, with_owned}
use Rattle.thread_blocks.specs.JobWorlds.{Shared, blocks_in, changed, shared_order, shared_turn, with_data}
use Rattle.thread_blocks.specs.Lines.{Line}
use Rattle.thread_blocks.specs.Turns.{Said, Phase, Idle, Mid, Thread, Turns, IsFinished, at_number, event_of, next_line}
use Rattle.thread_blocks.specs.Turns.{turn}
use Rattle.thread_blocks.proofs.Orders.{get-set, get-set_same, turned}
use Rattle.thread_blocks.proofs.Turns.{turn-finished}
use Rattle.lawful_points.specs.Orders.{is_over, look_at, look_if, look_in, looks_in}
use Rattle.lawful_points.specs.Points.{Look}
use Rattle.lawful_points.specs.Told.{Point, points_of}
use Rattle.lawful_points.proofs.Telling.{HasTold, TellsBegun, turn_told}

pub is_finished : {S L : Type 0} (todo : List L) (phase : Phase S) → is_over todo phase ≡ true → IsFinished todo phase
is_finished [] (Idle s) over = tt
is_finished (line ∷ todo) (Idle s) over = cc
is_finished [] (Mid left points s) over = cc
is_finished (line ∷ todo) (Mid left points s) over = cc

-- what a thread holds changes nothing of what it told

module _ {W F B : Type 0} (f : Held W F B → Held W F B) where
  changed_told : (thread : ℕ) (own todo : List Line) (phase : Phase (Held W F B)) (said : List Said) (told : List Point)
      → HasTold thread own todo phase said told → HasTold thread own todo (changed f phase) said told
  changed_told thread own todo (Idle h) said told at = at
  changed_told thread own todo (Mid left points h) said told at = at

  over_changed : (todo : List Line) (phase : Phase (Held W F B)) → is_over todo (changed f phase) ≡ is_over todo phase
  over_changed [] (Idle h) = refl
  over_changed (line ∷ todo) (Idle h) = refl
  over_changed [] (Mid left points h) = refl
  over_changed (line ∷ todo) (Mid left points h) = refl

  next_changed : (todo : List Line) (phase : Phase (Held W F B))
      → next_line todo (changed f phase) ≡ next_line todo phase
  next_changed [] phase = refl
  next_changed (line ∷ todo) (Idle h) = refl
  next_changed (line ∷ todo) (Mid left points h) = refl

module _ {W F B : Type 0} (x : ℕ → Turns (Held W F B) Line Event) (event : ℕ → Line → List Event → Option Event)
    (begins : (i : ℕ) (line : Line) (seen : List Event) (h : Held W F B)
    → TellsBegun i line (event i line seen) ((x i).begin line seen h)) where
  abbrev World : Type 0
  World = Shared W F B Line

  abbrev One : Type 0
  One = Thread (Held W F B) Line Event

  abbrev TellsOf : ℕ → List Line → One → List Point → Type 0
  TellsOf i own t told = HasTold i own t.todo t.phase t.said told

  abbrev lent : World → One → One
  lent w t = with_data w.shared t

  -- a turn of thread i among others, which has something left to do or not
  turned_told : (i : ℕ) (own : List Line) (w : World) (t : One) (told : List Point) (over : Bool) → TellsOf i own t told
      → is_over t.todo t.phase ≡ over
      → TellsOf i own (turned x event w i t) (told ++ points_of (look_if (not over) (look_at (event i) t w.events)))
  turned_told i own w t told true at over =
      let f = λ (h : Held W F B). with_owned h (owned_by h ++ w.shared) in
      let done : IsFinished t.todo (lent w t).phase = is_finished t.todo (lent w t).phase (over_changed f t.todo t.phase
      ∙ over) in
      let same : turn (x i) (lent w t) w.events ≡ lent w t = turn-finished (x i) (lent w t) w.events done in
      let before = changed_told f i own t.todo t.phase t.said told at in
      let now : TellsOf i own (turn (x i) (lent w t) w.events) told =
      subst (λ (u : One). TellsOf i own u told) (sym same) before in
      let new = turn (x i) (lent w t) w.events in
      subst (λ (ps : List Point). TellsOf i own (turned x event w i t) ps) (sym (append-nil told))
      (changed_told (λ h. with_owned h (blocks_in (owned_by h))) i own new.todo new.phase new.said told now)
  turned_told i own w t told false at over =
      let f = λ (h : Held W F B). with_owned h (owned_by h ++ w.shared) in
      let new = turn (x i) (lent w t) w.events in
      let now = turn_told i (x i) (event i) (begins i) own (lent w t) w.events told
      (changed_told f i own t.todo t.phase t.said told at) (over_changed f t.todo t.phase ∙ over) in
      let same : event_of (event i) (lent w t) w.events ≡ event_of (event i) t w.events =
      ap (λ (o : Option Line). option_and_then (λ (line : Line). event i line w.events) o)
      (next_changed f t.todo t.phase) in
      changed_told (λ h. with_owned h (blocks_in (owned_by h))) i own new.todo new.phase new.said _
      (subst (λ (e : Option Event). TellsOf i own new
      (told ++ record { number = length w.events; added = e } ∷ [])) same now)

  -- thread i is there, and told this
  abbrev pub HasAt : ℕ → List Line → World → List Point → Type 0
  HasAt i own w told = (t : One) × ((slice_get w.threads i ≡ Some t) × TellsOf (suc i) own t told)

  -- ** one turn of the order

  own_step : (i : ℕ) (own : List Line) (w : World) (u : One) (told : List Point) → slice_get w.threads i ≡ Some u
      → HasAt i own w told
      → HasAt i own (shared_turn x event w (suc i) (Some u))
      (told ++ points_of (look_in x event (suc i) (suc i) w.events (Some u)))
  own_step i own w u told at h =
      let mine = h.1.0 in
      let same : h.0 ≡ u = cc in
      let is : (suc i == suc i) ≡ true = eq-eqb (suc i) (suc i) refl in
      let new = turned x event w (suc i) u in
      let tells = turned_told (suc i) own w u told (is_over u.todo u.phase)
      (subst (λ (t : One). TellsOf (suc i) own t told) same h.1.1) refl in (
        new,
        (
          get-set_same w.threads i u new at,
          subst (λ (b : Bool). TellsOf (suc i) own new
              (told ++ points_of (look_if (b && not (is_over u.todo u.phase)) (look_at (event (suc i)) u w.events))))
              (sym is) tells,
        ),
      )

  other_step : (i j : ℕ) (own : List Line) (w : World) (u : One) (told : List Point) → (j ≡ i → ⊥) → HasAt i own w told
      → HasAt i own (shared_turn x event w (suc j) (Some u))
      (told ++ points_of (look_in x event (suc i) (suc j) w.events (Some u)))
  other_step i j own w u told ne h =
      let is : (suc j == suc i) ≡ false = ne_eqb (suc j) (suc i) (λ (e : suc j ≡ suc i). ne (omega (arith, e))) in
      let there : slice_get (slice_set w.threads j (turned x event w (suc j) u)) i ≡ slice_get w.threads i =
      (elim (get-set w.threads i j (turned x event w (suc j) u)) [
        | inl same ↦ absurd (ne same)
        | inr other ↦ other
      ]) in (
        h.0,
        (
          there ∙ h.1.0,
          subst (λ (b : Bool). TellsOf (suc i) own h.0
              (told ++ points_of (look_if (b && not (is_over u.todo u.phase)) (look_at (event (suc j)) u w.events))))
              (sym is)
              (subst (λ (ps : List Point). TellsOf (suc i) own h.0 ps) (sym (append-nil told)) h.1.1),
        ),
      )

  some_step : (i j : ℕ) (own : List Line) (w : World) (u : One) (told : List Point) → slice_get w.threads j ≡ Some u
      → HasAt i own w told
      → HasAt i own (shared_turn x event w (suc j) (Some u))
      (told ++ points_of (look_in x event (suc i) (suc j) w.events (Some u)))
  some_step i j own w u told at h = elim (cases_eq j i) [
    | inl same ↦
        let mine : slice_get w.threads i ≡ Some u = subst (λ (n : ℕ). slice_get w.threads n ≡ Some u) same at in
        subst (λ (n : ℕ). HasAt i own (shared_turn x event w (suc n) (Some u))
        (told ++ points_of (look_in x event (suc i) (suc n) w.events (Some u)))) (sym same)
        (own_step i own w u told mine h)
    | inr ne ↦ other_step i j own w u told ne h
  ]

  step : (i j : ℕ) (own : List Line) (w : World) (o : Option One) (told : List Point) → at_number w.threads j ≡ o
      → HasAt i own w told
      → HasAt i own (shared_turn x event w j o) (told ++ points_of (look_in x event (suc i) j w.events o))
  step i j own w None told at h =
      (h.0, (h.1.0, subst (λ (ps : List Point). TellsOf (suc i) own h.0 ps) (sym (append-nil told)) h.1.1))
  step i zero own w (Some u) told at h = cc
  step i (suc j) own w (Some u) told at h = some_step i j own w u told at h

  -- the law: what a thread told before an order and the looks that it takes in it are what it told behind it
  pub order_told : (i : ℕ) (own : List Line) (order : List ℕ) (w : World) (told : List Point) → HasAt i own w told
      → HasAt i own (shared_order x event order w) (told ++ points_of (looks_in x event (suc i) order w))
  order_told i own [] w told h =
      (h.0, (h.1.0, subst (λ (ps : List Point). TellsOf (suc i) own h.0 ps) (sym (append-nil told)) h.1.1))
  order_told i own (j ∷ order) w told h =
      let o = at_number w.threads j in
      let next = shared_turn x event w j o in
      let here = look_in x event (suc i) j w.events o in
      let rest = looks_in x event (suc i) order next in
      subst (λ (ps : List Point). HasAt i own (shared_order x event order next) ps)
      (append_assoc told (points_of here) (points_of rest)
      ∙ ap (λ (ps : List Point). told ++ ps) (sym (map-append (λ (look : Look). record {
        number = length look.seen;
        added =
            look.added;
      }) here rest)))
      (order_told i own order next (told ++ points_of here) (step i j own w o told refl h))
