-- Worlds of threads stay related, turn by turn, up to the first unclean line.
use Rattle.std.proofs.Common.{◌≡◌, ◌⊎◌, ◌∙◌, ◌++◌, ℕ, zero, suc, List, [], ◌∷◌, Option, Some, None, refl, sym, ap}
use Rattle.std.proofs.Common.{subst, inl, inr}
use Rattle.std.specs.Prelude.{option_and_then, slice_get}
use Rattle.module_table.specs.declared.events.Event.{Event}
use Rattle.thread_blocks.specs.Held.{Held, Owned, owned_by, with_owned}
use Rattle.thread_blocks.specs.JobWorlds.{Shared, blocks_in, changed, data_in, held_in, shared_order, shared_turn}
use Rattle.thread_blocks.specs.JobWorlds.{with_data, without_data}
use Rattle.thread_blocks.specs.SpaceLaws.{FoundAlike}
use Rattle.thread_blocks.specs.Turns.{Phase, Idle, Mid, Thread, Turns, at_number, event_of, next_line, turn, with_event}
use Rattle.thread_blocks.specs.TurnsAlike.{Level, SamePhase}
use Rattle.thread_blocks.specs.Turns.{IsFront}
use Rattle.thread_blocks.proofs.Turns.{turn-sticky}
use Rattle.thread_blocks.proofs.Orders.{front-trans, get-set_same, order-front, turn-front}
use Rattle.order_laws.specs.Alike.{AreAlike, SameOne}
use Rattle.order_laws.specs.Worlds.{AreLent, IsSomeUnclean, SameWorld}
use Rattle.order_laws.proofs.Sticky.{found_set, order_sticky, within_set}
use Rattle.order_laws.proofs.Turns.{turn_alike}

-- ** what a turn changes of a thread's data, and what it begins

next_changed : {W F B L : Type 0} (f : Held W F B → Held W F B) (todo : List L) (phase : Phase (Held W F B))
    → next_line todo (changed f phase) ≡ next_line todo phase
next_changed f [] phase = refl
next_changed f (line ∷ todo) (Idle h) = refl
next_changed f (line ∷ todo) (Mid steps points h) = refl

module _ {W F B W' F' B' L : Type 0} (Rel Wait Rest : ℕ → Held W F B → Held W' F' B' → Type 0)
    (Data : List (Owned B) → List (Owned B') → Type 0) (Within : ℕ → Type 0) (Fine : List Event → Type 0)
    (x : ℕ → Turns (Held W F B) L Event) (y : ℕ → Turns (Held W' F' B') L Event)
    (event event' : ℕ → L → List Event → Option Event)
    (same_event : (i : ℕ) (line : L) (seen : List Event) → event' i line seen ≡ event i line seen)
    (alike : (i : ℕ) → Within i → AreAlike (Rel (suc i)) (Wait (suc i)) (Rest (suc i)) Fine (x (suc i)) (y (suc i))
    (event' (suc i)))
    (lent : (i : ℕ) → Within i → AreLent Wait Rest Data (suc i)) where
  abbrev One : Type 0
  One = Thread (Held W F B) L Event

  abbrev One' : Type 0
  One' = Thread (Held W' F' B') L Event

  abbrev Same : ℕ → One → One' → Type 0
  Same i t t' = SameOne (Wait (suc i)) (Rest (suc i)) t t'

  abbrev SameAt : ℕ → List Event → Phase (Held W F B) → Phase (Held W' F' B') → Type 0
  SameAt i seen phase phase' =
      SamePhase (λ (e : List Event). Wait (suc i)) (λ (e : List Event). Rest (suc i)) seen phase phase'

  abbrev Worlds : Shared W F B L → Shared W' F' B' L → Type 0
  Worlds w w' = SameWorld Wait Rest Data Within w w'

  -- the data in a thread's hands, of both, and taken back
  lend_phase : (i : ℕ) → Within i → (xs : List (Owned B)) (ys : List (Owned B')) → Data xs ys → (seen : List Event)
      (phase : Phase (Held W F B)) (phase' : Phase (Held W' F' B')) → SameAt i seen phase phase'
      → SameAt i seen (changed (λ h. with_owned h (owned_by h ++ xs)) phase)
      (changed (λ h. with_owned h (owned_by h ++ ys)) phase')
  lend_phase i ok xs ys d seen (Idle h) (Idle h') same = (lent i ok).lend_rest h h' xs ys same d
  lend_phase i ok xs ys d seen (Idle h) (Mid left' points' h') same = absurd same
  lend_phase i ok xs ys d seen (Mid left points h) (Idle h') same = absurd same
  lend_phase i ok xs ys d seen (Mid left points h) (Mid left' points' h') same =
      (same.0, (same.1.0, (same.1.1.0, (lent i ok).lend_wait h h' xs ys same.1.1.1 d)))

  lend_thread : (i : ℕ) → Within i → (xs : List (Owned B)) (ys : List (Owned B')) → Data xs ys → (t : One) (t' : One')
      → Same i t t'
      → Same i (with_data xs t) (with_data ys t')
  lend_thread i ok xs ys d t t' (inl h) = inl h
  lend_thread i ok xs ys d t t' (inr h) =
      inr (record {
        todo = h.todo;
        said = h.said;
        seen = h.seen;
        phase =
            lend_phase i ok xs ys d t.seen t.phase t'.phase h.phase;
      })

  -- without the data
  keep_phase : (i : ℕ) → Within i → (seen : List Event) (phase : Phase (Held W F B)) (phase' : Phase (Held W' F' B'))
      → SameAt i seen phase phase'
      → SameAt i seen (changed (λ h. with_owned h (blocks_in (owned_by h))) phase)
      (changed (λ h. with_owned h (blocks_in (owned_by h))) phase')
  keep_phase i ok seen (Idle h) (Idle h') same = (lent i ok).keep_rest h h' same
  keep_phase i ok seen (Idle h) (Mid left' points' h') same = absurd same
  keep_phase i ok seen (Mid left points h) (Idle h') same = absurd same
  keep_phase i ok seen (Mid left points h) (Mid left' points' h') same =
      (same.0, (same.1.0, (same.1.1.0, (lent i ok).keep_wait h h' same.1.1.1)))

  -- the data itself
  left_phase : (i : ℕ) → Within i → (seen : List Event) (phase : Phase (Held W F B)) (phase' : Phase (Held W' F' B'))
      → SameAt i seen phase phase'
      → Data (data_in (owned_by (held_in phase))) (data_in (owned_by (held_in phase')))
  left_phase i ok seen (Idle h) (Idle h') same = (lent i ok).left_rest h h' same
  left_phase i ok seen (Idle h) (Mid left' points' h') same = absurd same
  left_phase i ok seen (Mid left points h) (Idle h') same = absurd same
  left_phase i ok seen (Mid left points h) (Mid left' points' h') same = (lent i ok).left_wait h h' same.1.1.1

  -- the line that begins, and its event
  next_alike : (i : ℕ) (seen : List Event) (todo : List L) (phase : Phase (Held W F B)) (phase' : Phase (Held W' F' B'))
      → SameAt i seen phase phase'
      → next_line todo phase' ≡ next_line todo phase
  next_alike i seen [] phase phase' same = refl
  next_alike i seen (line ∷ todo) (Idle h) (Idle h') same = refl
  next_alike i seen (line ∷ todo) (Idle h) (Mid left' points' h') same = absurd same
  next_alike i seen (line ∷ todo) (Mid left points h) (Idle h') same = absurd same
  next_alike i seen (line ∷ todo) (Mid left points h) (Mid left' points' h') same = refl

  added_alike : (i : ℕ) (o : Option L) (events : List Event)
      → option_and_then (λ (line : L). event' i line events) o ≡ option_and_then (λ (line : L). event i line events) o
  added_alike i None events = refl
  added_alike i (Some line) events = same_event i line events

  event_alike : (i : ℕ) (t : One) (t' : One') (events : List Event)
      → Level (λ (e : List Event). Wait (suc i)) (λ (e : List Event). Rest (suc i)) t t'
      → event_of (event' (suc i)) t' events ≡ event_of (event (suc i)) t events
  event_alike i t t' events h =
      ap (λ (todo : List L). option_and_then (λ (line : L). event' (suc i) line events)
      (next_line todo t'.phase)) h.todo
      ∙ (ap (option_and_then (λ (line : L). event' (suc i) line events))
      (next_alike i t.seen t.todo t.phase t'.phase h.phase)
      ∙ added_alike (suc i) (next_line t.todo t.phase) events)

  -- ** a turn of two related threads

  module _ (w : Shared W F B L) (w' : Shared W' F' B' L) (same : Worlds w w') (i : ℕ) (t : One) (t' : One')
      (found : slice_get w.threads i ≡ Some t) (ok : Within i)
      (fine : Fine w'.events) (own : Fine (with_event w'.events (event_of (event' (suc i)) t' w'.events))) where
    abbrev u : One
    u = turn (x (suc i)) (with_data w.shared t) w.events

    abbrev u' : One'
    u' = turn (y (suc i)) (with_data w'.shared t') w'.events

    turned : Same i t t' → Same i u u'
    turned s =
        let line = next_changed (λ h. with_owned h (owned_by h ++ w'.shared)) t'.todo t'.phase in
        let mine = subst (λ (o : Option L). Fine
        (with_event w'.events (option_and_then (λ (line : L). event' (suc i) line w'.events) o))) (sym line) own in
        subst (λ (e : List Event). Same i (turn (x (suc i)) (with_data w.shared t) e) u') same.events
        (turn_alike (Rel (suc i)) (Wait (suc i)) (Rest (suc i)) Fine (x (suc i)) (y (suc i)) (event' (suc i))
        (alike i ok)
        (with_data w.shared t) (with_data w'.shared t') w'.events fine mine
        (lend_thread i ok w.shared w'.shared same.shared t t' s))

    turned_on : Same i t t' → Level (λ (e : List Event). Wait (suc i)) (λ (e : List Event). Rest (suc i)) t t'
        → Same i u u'
        → IsSomeUnclean (shared_turn x event w (suc i) (Some t))
        ⊎ Worlds (shared_turn x event w (suc i) (Some t)) (shared_turn y event' w' (suc i) (Some t'))
    turned_on s level (inl h) =
        inl (record {
          number = i;
          thread = without_data u;
          there =
              get-set_same w.threads i t (without_data u) found;
          unclean = h;
        })
    turned_on s level (inr h) =
        inr (record {
          events = ap (λ (e : List Event). with_event e (event_of (event' (suc i)) t' e)) same.events
              ∙ ap (with_event w.events) (event_alike i t t' w.events level);
          shared = left_phase i ok u.seen u.phase u'.phase h.phase;
          each = found_set Same w.threads w'.threads i (without_data u) (without_data u') same.each
              (inr (record {
                todo = h.todo;
                said = h.said;
                seen = h.seen;
                phase =
                    keep_phase i ok u.seen u.phase u'.phase h.phase;
              }));
          within = within_set Within w.threads i (without_data u) same.within;
        })

    some_turn : Same i t t' → IsSomeUnclean (shared_turn x event w (suc i) (Some t))
        ⊎ Worlds (shared_turn x event w (suc i) (Some t)) (shared_turn y event' w' (suc i) (Some t'))
    some_turn (inl h) =
        inl (record {
          number = i;
          thread = without_data u;
          there = get-set_same w.threads i t (without_data u) found;
          unclean = turn-sticky (x (suc i)) (with_data w.shared t) w.events h;
        })
    some_turn (inr h) = turned_on (inr h) h (turned (inr h))

  -- ** a turn of the thread of a number, if there is one

  either_turn : (w : Shared W F B L) (w' : Shared W' F' B' L) → Worlds w w'
      → (i : ℕ) (o : Option One) (o' : Option One')
      → slice_get w.threads i ≡ o → FoundAlike (Same i) o o'
      → ((e : List Event) → IsFront e (shared_turn y event' w' (suc i) o').events → Fine e)
      → IsSomeUnclean (shared_turn x event w (suc i) o)
      ⊎ Worlds (shared_turn x event w (suc i) o) (shared_turn y event' w' (suc i) o')
  either_turn w w' same i None None found alike_found fine = inr same
  either_turn w w' same i None (Some t') found alike_found fine = absurd alike_found
  either_turn w w' same i (Some t) None found alike_found fine = absurd alike_found
  either_turn w w' same i (Some t) (Some t') found alike_found fine =
      some_turn w w' same i t t' found (same.within i t found)
      (fine w'.events (turn-front y event' w' (suc i) (Some t')))
      (fine (shared_turn y event' w' (suc i) (Some t')).events
      ([], sym (append_nil_is (shared_turn y event' w' (suc i) (Some t')).events)))
      alike_found
    where
      append_nil_is : (es : List Event) → es ++ [] ≡ es
      append_nil_is [] = refl
      append_nil_is (e ∷ es) = ap (λ (more : List Event). e ∷ more) (append_nil_is es)

  one_turn : (w : Shared W F B L) (w' : Shared W' F' B' L) → Worlds w w' → (i : ℕ)
      → ((e : List Event) → IsFront e (shared_turn y event' w' i (at_number w'.threads i)).events → Fine e)
      → IsSomeUnclean (shared_turn x event w i (at_number w.threads i))
      ⊎ Worlds (shared_turn x event w i (at_number w.threads i)) (shared_turn y event' w' i (at_number w'.threads i))
  one_turn w w' same zero fine = inr same
  one_turn w w' same (suc i) fine =
      either_turn w w' same i (slice_get w.threads i) (slice_get w'.threads i) refl (same.each i) fine

  -- the law: all turns of an order
  pub order_alike : (order : List ℕ) (w : Shared W F B L) (w' : Shared W' F' B' L) → Worlds w w'
      → ((e : List Event) → IsFront e (shared_order y event' order w').events → Fine e)
      → IsSomeUnclean (shared_order x event order w)
      ⊎ Worlds (shared_order x event order w) (shared_order y event' order w')
  order_alike [] w w' same fine = inr same
  order_alike (i ∷ order) w w' same fine =
      let v = shared_turn x event w i (at_number w.threads i) in
      let v' = shared_turn y event' w' i (at_number w'.threads i) in
      (elim (one_turn w w' same i (λ e front. fine e
      (front-trans y event' e v'.events (shared_order y event' order v').events front (order-front y event' order v'))))
      as (λ (o : IsSomeUnclean v ⊎ Worlds v v').
      IsSomeUnclean (shared_order x event order v)
      ⊎ Worlds (shared_order x event order v) (shared_order y event' order v')) [
        | inl h ↦ inl (order_sticky x event order v h)
        | inr h ↦ order_alike order v v' h fine
      ])
