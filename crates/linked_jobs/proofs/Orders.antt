-- In any order of turns of a job, where the meaning of a thread stands the machine's thread stands too.
use Rattle.std.proofs.Common.{◌≡◌, ◌⊎◌, ◌++◌, ◌*◌, ◌≤◌, ℕ, Bool, zero, suc, List, [], ◌∷◌, length, Option, Some, None}
use Rattle.std.proofs.Common.{refl, sym, subst, inl, inr, arith}
use Rattle.std.specs.Prelude.{option_and_then, slice_get}
use Rattle.job_meaning.specs.declared.values.Byte.{Byte}
use Rattle.job_meaning.specs.declared.values.Flag.{Flag}
use Rattle.job_meaning.specs.declared.values.Word.{Word}
use Rattle.job_text.specs.declared.thread_lines.ThreadLine.{ThreadLine}
use Rattle.module_table.specs.declared.events.Event.{Event}
use Rattle.thread_blocks.specs.Held.{Held, Owned, owned_by, with_owned}
use Rattle.thread_blocks.specs.Instances.{Loads}
use Rattle.thread_blocks.specs.JobWorlds.{Shared, changed, shared_order, shared_turn, with_data, job_start}
use Rattle.thread_blocks.specs.Lines.{Line, event_by}
use Rattle.thread_blocks.specs.RunTime.{Runs, thread_turns}
use Rattle.thread_blocks.specs.SpaceLaws.{FoundAlike}
use Rattle.thread_blocks.specs.Turns.{Idle, Mid, Phase, Thread, Turns, at_number, event_of, next_line, with_event}
use Rattle.thread_blocks.specs.Turns.{with_last}
use Rattle.thread_blocks.specs.TurnsAlike.{SamePhase}
use Rattle.thread_blocks.specs.Turns.{IsFront}
use Rattle.thread_blocks.proofs.Orders.{front-trans, turn-front}
use Rattle.whole_meaning.specs.Meanings.{Meaning}
use Rattle.whole_meaning.specs.Threads.{Meant, meant_turns, ops}
use Rattle.order_laws.specs.Alike.{AreAlike, SameOne}
use Rattle.order_laws.specs.Worlds.{AreLent, IsSomeUnclean}
use Rattle.order_laws.proofs.Worlds.{order_alike}
use Rattle.tied_meaning.specs.Numbers.{Setting}
use Rattle.tied_meaning.specs.Ties.{AreTied}
use Rattle.tied_meaning.specs.Threads.{AtRest, InCall, SameData, Waiting}
use Rattle.held_alike.proofs.Lent.{each_lent}
use Rattle.begin_alike.specs.Laws.{SameJob}
use Rattle.begin_alike.proofs.Begins.{event_same}
use Rattle.begin_alike.proofs.Firsts.{start_alike}
use Rattle.begin_alike.proofs.Worlds.{threads_do}
use Rattle.call_alike.proofs.Simulated.{calls_alike}
use Rattle.linked_jobs.specs.Answers.{StandsIn, meant_after, ran_after}
use Rattle.linked_jobs.proofs.Standing.{stands_alike}
use Rattle.guest_arithmetic.specs.Plain.{plain_operations}

-- ** turns, and one more

module _ {W F B L : Type 0} (x : ℕ → Turns (Held W F B) L Event) (event : ℕ → L → List Event → Option Event) where
  one_more : (order : List ℕ) (i : ℕ) (w : Shared W F B L) → shared_order x event (with_last order i) w
      ≡ shared_turn x event (shared_order x event order w) i (at_number (shared_order x event order w).threads i)
  one_more [] i w = refl
  one_more (j ∷ order) i w = one_more order i (shared_turn x event w j (at_number w.threads j))

-- data in a thread's hands begin no line
next_changed : {W F B L : Type 0} (f : Held W F B → Held W F B) (todo : List L) (phase : Phase (Held W F B))
    → next_line todo (changed f phase) ≡ next_line todo phase
next_changed f [] phase = refl
next_changed f (line ∷ todo) (Idle h) = refl
next_changed f (line ∷ todo) (Mid left points h) = refl

-- what is found on one side is found on the other
found_too : {A B : Type 0} (P : A → B → Type 0) (o : Option A) (o' : Option B) (a : A) → FoundAlike P o o' → o ≡ Some a
    → (b : B) × ((o' ≡ Some b) × P a b)
found_too P None o' a found e = cc
found_too P (Some c) None a found e = absurd found
found_too P (Some c) (Some b) a found e = let same : c ≡ a = cc in (b, (refl, subst (λ d. P d b) same found))

module _ (g : Setting) (m : Meaning) (q : Loads ℕ) (history : List Event) (tied : AreTied g m q history) where
  abbrev Call : ℕ → Meant → Runs → Type 0
  Call i = InCall g m q history i

  abbrev Rest : ℕ → Meant → Runs → Type 0
  Rest i = AtRest g m q history i

  abbrev Wait : ℕ → Meant → Runs → Type 0
  Wait i = Waiting g m q history i

  abbrev Fine : List Event → Type 0
  Fine seen = IsFront seen history

  lent : (i : ℕ) → AreLent Wait Rest (SameData g q) i
  lent i = each_lent g m q history i

  -- ** the data in a thread's hands

  lend_phase : (i : ℕ) (xs : List (Owned Byte)) (ys : List (Owned ℕ)) → SameData g q xs ys → (seen : List Event)
      (phase : Phase Meant) (phase' : Phase Runs)
      → SamePhase (λ (e : List Event). Wait i) (λ (e : List Event). Rest i) seen phase phase'
      → SamePhase (λ (e : List Event). Wait i) (λ (e : List Event). Rest i) seen
      (changed (λ h. with_owned h (owned_by h ++ xs)) phase) (changed (λ h. with_owned h (owned_by h ++ ys)) phase')
  lend_phase i xs ys d seen (Idle h) (Idle h') same = (lent i).lend_rest h h' xs ys same d
  lend_phase i xs ys d seen (Idle h) (Mid left' points' h') same = absurd same
  lend_phase i xs ys d seen (Mid left points h) (Idle h') same = absurd same
  lend_phase i xs ys d seen (Mid left points h) (Mid left' points' h') same =
      (same.0, (same.1.0, (same.1.1.0, (lent i).lend_wait h h' xs ys same.1.1.1 d)))

  lend : (i : ℕ) (xs : List (Owned Byte)) (ys : List (Owned ℕ)) → SameData g q xs ys → (t : Thread Meant Line Event)
      (t' : Thread Runs Line Event) → SameOne (Wait i) (Rest i) t t'
      → SameOne (Wait i) (Rest i) (with_data xs t) (with_data ys t')
  lend i xs ys d t t' (inl unclean) = inl unclean
  lend i xs ys d t t' (inr level) =
      inr (record {
        todo = level.todo;
        said = level.said;
        seen = level.seen;
        phase = lend_phase i xs ys d t.seen t.phase t'.phase level.phase;
      })

  -- ** a turn of thread i + 1 after others

  module _ (fuel : ℕ) (lines : List (List ThreadLine)) (order : List ℕ) (i : ℕ) (few : length lines ≤ 64)
      (ends : IsFront (ran_after q fuel lines (with_last order (suc i))).events history)
      (clean : IsSomeUnclean (meant_after m fuel lines order) → ⊥) where
    abbrev by_meaning : ℕ → Turns Meant Line Event
    by_meaning thread = meant_turns m thread fuel

    abbrev by_machine : ℕ → Turns Runs Line Event
    by_machine thread = thread_turns q thread fuel

    abbrev adds : ℕ → Line → List Event → Option Event
    adds thread = event_by q thread

    abbrev w : Shared Word Flag Byte Line
    w = meant_after m fuel lines order

    abbrev w' : Shared ℕ Bool ℕ Line
    w' = ran_after q fuel lines order

    turned : IsFront (shared_turn by_machine adds w' (suc i) (at_number w'.threads (suc i))).events history
    turned = subst (λ (v : Shared ℕ Bool ℕ Line). IsFront v.events history)
        (one_more by_machine adds order (suc i) (job_start plain_operations q lines)) ends

    now : IsFront w'.events history
    now = front-trans by_machine adds w'.events
        (shared_turn by_machine adds w' (suc i) (at_number w'.threads (suc i))).events history
        (turn-front by_machine adds w' (suc i) (at_number w'.threads (suc i))) turned

    threads_alike : (thread : ℕ) → 1 ≤ thread → thread ≤ 64
        → AreAlike (Call thread) (Wait thread) (Rest thread) Fine (by_meaning thread) (by_machine thread) (adds thread)
    threads_alike = threads_do g m q history tied (calls_alike g m q history tied) fuel

    worlds : IsSomeUnclean w ⊎ SameJob g m q history w w'
    worlds =
        order_alike Call Wait Rest (SameData g q) (λ (i : ℕ). suc i ≤ 64) Fine by_meaning by_machine
        (λ (thread : ℕ). event_by m.loads thread) adds (λ i line seen. event_same g m q history i tied line seen)
        (λ i most. threads_alike (suc i) (omega arith) most) (λ i most. lent (suc i))
        order (job_start ops m.loads lines) (job_start plain_operations q lines)
        (start_alike g m q history tied lines few)
        (λ e front. front-trans by_machine adds e w'.events history front now)

    abbrev Found : ℕ → Meant → Type 0
    Found left h = (t' : Thread Runs Line Event) × ((h' : Runs) × ((at_number w'.threads (suc i) ≡ Some t')
        × StandsIn (by_machine (suc i)) (with_data w'.shared t') w'.events (4 * left) h' × Call (suc i) h h'))

    stands_there : (t : Thread Meant Line Event) → slice_get w.threads i ≡ Some t → (left : ℕ) (h : Meant)
        → StandsIn (by_meaning (suc i)) (with_data w.shared t) w.events left h
        → IsSomeUnclean w ⊎ SameJob g m q history w w'
        → Found left h
    stands_there t at left h stands (inl unclean) = absurd (clean unclean)
    stands_there t at left h stands (inr same) =
        let other = found_too (SameOne (Wait (suc i)) (Rest (suc i))) (slice_get w.threads i) (slice_get w'.threads i) t
        (same.each i) at in
        let t' = other.0 in
        let own : IsFront (with_event w'.events (event_of (adds (suc i)) t' w'.events)) history =
        subst (λ (o : Option (Thread Runs Line Event)).
        IsFront (shared_turn by_machine adds w' (suc i) o).events history) other.1.0 turned in
        let line = next_changed (λ (h : Runs). with_owned h (owned_by h ++ w'.shared)) t'.todo t'.phase in
        let mine = subst (λ (o : Option Line). IsFront
        (with_event w'.events (option_and_then (λ (line : Line). adds (suc i) line w'.events) o)) history)
        (sym line) own in
        let on =
        stands_alike (Call (suc i)) (Wait (suc i)) (Rest (suc i)) Fine (by_meaning (suc i)) (by_machine (suc i))
        (adds (suc i)) (threads_alike (suc i) (omega arith) (same.within i t at)) (with_data w.shared t)
        (with_data w'.shared t') w'.events now mine
        (lend (suc i) w.shared w'.shared same.shared t t' other.1.1)
        (λ unclean. clean (record { number = i; thread = t; there = at; unclean = unclean })) left h
        (subst (λ (e : List Event). StandsIn (by_meaning (suc i)) (with_data w.shared t) e left h)
        (sym same.events) stands) in
        (t', (on.0, (other.1.0, on.1.0, on.1.1)))

  pub stands_among : (fuel : ℕ) (lines : List (List ThreadLine)) (order : List ℕ) (thread : ℕ) → length lines ≤ 64
      → IsFront (ran_after q fuel lines (with_last order thread)).events history
      → (IsSomeUnclean (meant_after m fuel lines order) → ⊥)
      → let w = meant_after m fuel lines order in
      let w' = ran_after q fuel lines order in
      (t : Thread Meant Line Event) → at_number w.threads thread ≡ Some t
      → (left : ℕ) (h : Meant) → StandsIn (meant_turns m thread fuel) (with_data w.shared t) w.events left h
      → (t' : Thread Runs Line Event) × ((h' : Runs) × ((at_number w'.threads thread ≡ Some t')
      × StandsIn (thread_turns q thread fuel) (with_data w'.shared t') w'.events (4 * left) h'
      × InCall g m q history thread h h'))
  stands_among fuel lines order zero few ends clean t at left h stands = cc
  stands_among fuel lines order (suc i) few ends clean t at left h stands =
      stands_there fuel lines order i few ends clean t at left h stands (worlds fuel lines order i few ends clean)
