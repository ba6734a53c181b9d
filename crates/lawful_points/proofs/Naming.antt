-- In any order of turns each event names a thread of the job, and each thread's lines fit what they say.
use Rattle.std.proofs.Common.{◌≡◌, ◌∙◌, ◌*◌, ◌++◌, ℕ, zero, suc, List, [], ◌∷◌, length, map, Option, Some, None, refl}
use Rattle.std.proofs.Common.{sym, ap, subst, inl, inr, arith, length-set}
use Rattle.std.specs.Prelude.{◌⊎◌, All, option_and_then, slice_get, slice_set}
use Rattle.std.proofs.lemmas.List.{length-map}
use Rattle.std.proofs.lemmas.List.Elements.{All-nil, All-push}
use Rattle.std.proofs.lemmas.Option.{same_Some, slice_get_within}
use Rattle.job_text.specs.declared.thread_lines.ThreadLine.{ThreadLine}
use Rattle.job_text.specs.Threads.{IsThread}
use Rattle.module_table.specs.declared.events.Event.{Event}
use Rattle.transcript_text.specs.Texts.{Shown}
use Rattle.thread_blocks.specs.Held.{Held, owned_by, with_owned}
use Rattle.thread_blocks.specs.Instances.{Loads}
use Rattle.thread_blocks.specs.JobWorlds.{Shared, Tells, blocks_in, changed, job_start, job_world, numbered_lines}
use Rattle.thread_blocks.specs.JobWorlds.{ready_from, shared_order, shared_turn, thread_ready, with_data}
use Rattle.thread_blocks.specs.Lines.{Line, event_by}
use Rattle.thread_blocks.specs.MachineTurns.{shown}
use Rattle.thread_blocks.specs.RunTime.{Runs, thread_turns}
use Rattle.thread_blocks.specs.Turns.{Said, Phase, Idle, Mid, Thread, Turns, IsFinished, at_number, event_of, next_line}
use Rattle.thread_blocks.specs.Turns.{ready, turn, whole_order, with_event}
use Rattle.thread_blocks.proofs.Endings.{thread_at, threads_ended}
use Rattle.thread_blocks.proofs.Orders.{get-set, get-set_same, turned}
use Rattle.lawful_points.proofs.Fitting.{AllFit, BeginFits, HasFit, ResumeFits, begins_fit, first_fits, last_fits}
use Rattle.lawful_points.proofs.Fitting.{resumes_fit, turn_fits}
use Rattle.lawful_points.proofs.Jobs.{event_named}
use Rattle.guest_arithmetic.specs.Plain.{plain_operations}

-- ** what a thread holds changes nothing of how its lines fit

module _ {W F B : Type 0} (f : Held W F B → Held W F B) where
  changed_fits : (own todo : List Line) (phase : Phase (Held W F B)) (said : List Said) → HasFit own todo phase said
      → HasFit own todo (changed f phase) said
  changed_fits own todo (Idle h) said at = at
  changed_fits own todo (Mid left points h) said at = at

module _ {W F B : Type 0} (x : ℕ → Turns (Held W F B) Line Event) (event : ℕ → Line → List Event → Option Event) where
  abbrev World : Type 0
  World = Shared W F B Line

  abbrev One : Type 0
  One = Thread (Held W F B) Line Event

  -- ** as many threads as before

  turn_count : (w : World) (j : ℕ) (o : Option One) → length (shared_turn x event w j o).threads ≡ length w.threads
  turn_count w j None = refl
  turn_count w zero (Some t) = refl
  turn_count w (suc j) (Some t) = length-set w.threads j _

  pub order_count : (order : List ℕ) (w : World) → length (shared_order x event order w).threads ≡ length w.threads
  order_count [] w = refl
  order_count (j ∷ order) w = order_count order (shared_turn x event w j (at_number w.threads j))
      ∙ turn_count w j (at_number w.threads j)

  -- ** each event names one of them

  module _ (named : (i : ℕ) (line : Line) (seen : List Event) (e : Event) → event i line seen ≡ Some e → e.thread ≡ i)
      (count : ℕ) where
    abbrev Names : Event → Type 0
    Names e = IsThread count e.thread

    is_thread : (w : World) (j : ℕ) (t : One) → length w.threads ≡ count → at_number w.threads j ≡ Some t
        → IsThread count j
    is_thread w zero t long at = cc
    is_thread w (suc j) t long at = let within = slice_get_within w.threads j t at in
        (omega arith, omega (arith, within, long))

    line_named : (j : ℕ) (line : Option Line) (seen : List Event) (e : Event)
        → option_and_then (λ (x : Line). event j x seen) line ≡ Some e → e.thread ≡ j
    line_named j None seen e same = cc
    line_named j (Some line) seen e same = named j line seen e same

    with_named : (events : List Event) (j : ℕ) (own : Option Event) → IsThread count j
        → ((e : Event) → own ≡ Some e → e.thread ≡ j) → All Names events → All Names (with_event events own)
    with_named events j None is own_named all = all
    with_named events j (Some e) is own_named all =
        All-push Names events e all (subst (IsThread count) (sym (own_named e refl)) is)

    turn_named : (w : World) (j : ℕ) (o : Option One) → at_number w.threads j ≡ o → length w.threads ≡ count
        → All Names w.events → All Names (shared_turn x event w j o).events
    turn_named w j None at long all = all
    turn_named w j (Some t) at long all =
        with_named w.events j (event_of (event j) t w.events) (is_thread w j t long at)
        (λ e same. line_named j (next_line t.todo t.phase) w.events e same) all

    pub order_named : (order : List ℕ) (w : World) → length w.threads ≡ count → All Names w.events
        → All Names (shared_order x event order w).events
    order_named [] w long all = all
    order_named (j ∷ order) w long all =
        let o = at_number w.threads j in
        order_named order (shared_turn x event w j o) (turn_count w j o ∙ long) (turn_named w j o refl long all)

  -- ** each thread's lines fit

  module _ (begins : (i : ℕ) (line : Line) (seen : List Event) (h : Held W F B)
      → BeginFits line.told.action ((x i).begin line seen h))
      (resumes : (i : ℕ) (seen : List Event) (h : Held W F B) → ResumeFits ((x i).resume seen h)) where
    abbrev FitOf : List Line → One → Type 0
    FitOf own t = HasFit own t.todo t.phase t.said

    turned_fits : (w : World) (i : ℕ) (own : List Line) (t : One) → FitOf own t → FitOf own (turned x event w i t)
    turned_fits w i own t at =
        let lent = with_data w.shared t in
        let new = turn (x i) lent w.events in
        changed_fits (λ h. with_owned h (blocks_in (owned_by h))) own new.todo new.phase new.said
        (turn_fits (x i) (begins i) (resumes i) own lent w.events
        (changed_fits (λ h. with_owned h (owned_by h ++ w.shared)) own t.todo t.phase t.said at))

    abbrev pub HasAt : ℕ → List Line → World → Type 0
    HasAt i own w = (t : One) × ((slice_get w.threads i ≡ Some t) × FitOf own t)

    set_fits : (w : World) (i j : ℕ) (own : List Line) (u : One) → slice_get w.threads j ≡ Some u → HasAt i own w
        → HasAt i own (shared_turn x event w (suc j) (Some u))
    set_fits w i j own u at h =
        let v = turned x event w (suc j) u in
        (elim (get-set w.threads i j v)
        as (λ (o : (j ≡ i) ⊎ (slice_get (slice_set w.threads j v) i ≡ slice_get w.threads i)).
        (t : One) × ((slice_get (slice_set w.threads j v) i ≡ Some t) × FitOf own t)) [
          | inl here ↦
              let mine = h.1.0 in
              let same : h.0 ≡ u = cc in (
                v,
                (
                  subst (λ (n : ℕ). slice_get (slice_set w.threads j v) n ≡ Some v) here
                      (get-set_same w.threads j u v at),
                  turned_fits w (suc j) own u (subst (λ (t : One). FitOf own t) same h.1.1),
                ),
              )
          | inr other ↦ (h.0, (other ∙ h.1.0, h.1.1))
        ])

    taken_fits : (w : World) (i j : ℕ) (own : List Line) (o : Option One) → at_number w.threads j ≡ o → HasAt i own w
        → HasAt i own (shared_turn x event w j o)
    taken_fits w i j own None at h = h
    taken_fits w i zero own (Some u) at h = cc
    taken_fits w i (suc j) own (Some u) at h = set_fits w i j own u at h

    pub order_fits : (order : List ℕ) (w : World) (i : ℕ) (own : List Line) → HasAt i own w
        → HasAt i own (shared_order x event order w)
    order_fits [] w i own h = h
    order_fits (j ∷ order) w i own h =
        let o = at_number w.threads j in
        order_fits order (shared_turn x event w j o) i own (taken_fits w i j own o refl h)

-- ** a job

module _ (l : Loads ℕ) (fuel : ℕ) where
  ready_count : (first : ℕ) (lines : List (List ThreadLine))
      → length (ready_from plain_operations l first lines) ≡ length lines
  ready_count first [] = refl
  ready_count first (own ∷ lines) = ap suc (ready_count (suc first) lines)

  module _ (lines : List (List ThreadLine)) (order : List ℕ) where
    pub world_count : length (job_world l fuel lines order).threads ≡ length lines
    unfolding job_world
    world_count =
        order_count (λ i. thread_turns l i fuel) (λ i. event_by l i) (whole_order (4 * fuel) lines order)
        (job_start plain_operations l lines) ∙ ready_count 1 lines

    pub world_named : All (λ (e : Event). IsThread (length lines) e.thread) (job_world l fuel lines order).events
    unfolding job_world
    world_named =
        order_named (λ i. thread_turns l i fuel) (λ i. event_by l i)
        (λ i line seen e same. event_named l i line seen e same)
        (length lines) (whole_order (4 * fuel) lines order) (job_start plain_operations l lines) (ready_count 1 lines)
        (All-nil _)

    fit_at : (i : ℕ) (own : List ThreadLine) → slice_get lines i ≡ Some own
        → HasAt (λ i. thread_turns l i fuel) (λ i. event_by l i) (λ i line seen h. begins_fit l i fuel line seen h)
        (λ i seen h. resumes_fit l i fuel seen h) i (numbered_lines 1 own) (job_world l fuel lines order)
    unfolding job_world
    fit_at i own at =
        order_fits (λ i. thread_turns l i fuel) (λ i. event_by l i) (λ i line seen h. begins_fit l i fuel line seen h)
        (λ i seen h. resumes_fit l i fuel seen h) (whole_order (4 * fuel) lines order)
        (job_start plain_operations l lines) i
        (numbered_lines 1 own) (
          ready (thread_ready plain_operations l (suc i)) (numbered_lines 1 own),
          (
            thread_at l 1 lines i (suc i) own (omega arith) at,
            first_fits (numbered_lines 1 own) (thread_ready plain_operations l (suc i)),
          ),
        )

    pub world_fits : (i : ℕ) (own : List ThreadLine) (t : Thread Runs Line Event) → slice_get lines i ≡ Some own
        → slice_get (job_world l fuel lines order).threads i ≡ Some t → AllFit (numbered_lines 1 own) t.said
    world_fits i own t at found =
        let ended = threads_ended l fuel lines order (suc i) own at in
        let fit = fit_at i own at in
        let over : IsFinished t.todo t.phase =
        subst (λ (u : Thread Runs Line Event). IsFinished u.todo u.phase)
        (same_Some ended.0 t (sym ended.1.0 ∙ found)) ended.1.1 in
        let is : HasFit (numbered_lines 1 own) t.todo t.phase t.said =
        subst (λ (u : Thread Runs Line Event). HasFit (numbered_lines 1 own) u.todo u.phase u.said)
        (same_Some fit.0 t (sym fit.1.0 ∙ found)) fit.1.1 in
        last_fits (numbered_lines 1 own) t.todo t.phase t.said over is

-- ** its transcript

module _ (l : Loads ℕ) (fuel : ℕ) (lines : List (List ThreadLine)) (order : List ℕ) (transcript : Shown)
    (tells : Tells (job_world l fuel lines order) transcript) where
  pub told_count : length transcript.threads ≡ length lines
  told_count =
      sym (length-map transcript.threads (map Some)) ∙ (ap length tells.lines
      ∙ (length-map (job_world l fuel lines order).threads (λ t. map shown t.said) ∙ world_count l fuel lines order))

  pub told_named : All (λ (e : Event). IsThread (length lines) e.thread) transcript.events
  told_named =
      subst (λ (events : List Event). All (λ (e : Event). IsThread (length lines) e.thread) events) (sym tells.events)
      (world_named l fuel lines order)
