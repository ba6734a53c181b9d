-- Each event of a job is one that was accepted after those before it.
use Rattle.std.proofs.Common.{◌≡◌, ℕ, ◌*◌, List, [], ◌∷◌, Option, Some, None, Bool, true, false, refl, subst}
use Rattle.std.specs.Prelude.{is_none, option_and_then}
use Rattle.job_text.specs.declared.thread_lines.Action.{Action}
use Rattle.job_text.specs.declared.thread_lines.Action.TheVariants.{Call, Open, Close, Peek}
use Rattle.module_table.specs.declared.events.Event.{Event}
use Rattle.module_table.specs.Past.{Past, accepts, is_legal, past, start, open_refusal, close_refusal}
use Rattle.module_table.specs.Walks.{legal_push}
use Rattle.thread_blocks.specs.Instances.{Loads, left_by}
use Rattle.thread_blocks.specs.JobStatements.{HistoriesAreLegal}
use Rattle.thread_blocks.specs.JobWorlds.{Shared, job_world, job_start, shared_order, shared_turn}
use Rattle.thread_blocks.specs.Lines.{Line, event_at, event_by, unless_refused}
use Rattle.thread_blocks.specs.RunTime.{Runs, thread_turns}
use Rattle.thread_blocks.specs.Turns.{Thread, at_number, event_of, next_line, whole_order, with_event}
use Rattle.guest_arithmetic.specs.Plain.{plain_operations}

-- an event that is not refused
pub is_event : {R : Type 0} (refusal : Option R) (e found : Event) → unless_refused refusal e ≡ Some found
    → (is_none refusal ≡ true) × (e ≡ found)
is_event None e found same = (refl, cc)
is_event (Some refusal) e found same = cc

open_accepted : (p : Past) (e found : Event) → e.opens ≡ true
    → unless_refused (open_refusal p e.image) e ≡ Some found → accepts p found ≡ true
unfolding accepts
open_accepted p e found opens same = let is = is_event (open_refusal p e.image) e found same in
    let P : Event → Type 0 = λ x. accepts p x ≡ true in
    subst P is.1 (rw (opens, is.0) refl)

close_accepted : (p : Past) (e found : Event) → e.opens ≡ false
    → unless_refused (close_refusal p e.image) e ≡ Some found → accepts p found ≡ true
unfolding accepts
close_accepted p e found opens same = let is = is_event (close_refusal p e.image) e found same in
    let P : Event → Type 0 = λ x. accepts p x ≡ true in
    subst P is.1 (rw (opens, is.0) refl)

-- the event that a line adds
accepted_by : (l : Loads ℕ) (thread number image : ℕ) (action : Action) (seen : List Event) (found : Event)
    → event_by l thread (record { number = number; told = record { image = image; action = action } }) seen ≡ Some found
    → accepts (left_by l seen) found ≡ true
accepted_by l thread number image (Call symbol a b c) seen found same = cc
accepted_by l thread number image Open seen found same =
    open_accepted (left_by l seen) (event_at thread number true image) found refl same
accepted_by l thread number image Close seen found same =
    close_accepted (left_by l seen) (event_at thread number false image) found refl same
accepted_by l thread number image (Peek symbol size) seen found same = cc

-- ---- along turns

abbrev Legal : Loads ℕ → List Event → Type 0
Legal l events = is_legal (start l.infos l.last_offset) events ≡ true

legal_with : (l : Loads ℕ) (events : List Event) (e : Option Event) → Legal l events
    → ((found : Event) → e ≡ Some found → accepts (left_by l events) found ≡ true) → Legal l (with_event events e)
unfolding past
legal_with l events None legal accepted = legal
legal_with l events (Some e) legal accepted =
    legal_push (start l.infos l.last_offset) events e legal (accepted e refl)

line_accepted : (l : Loads ℕ) (thread : ℕ) (line : Option Line) (seen : List Event) (found : Event)
    → option_and_then (λ (x : Line). event_by l thread x seen) line ≡ Some found → accepts (left_by l seen) found ≡ true
line_accepted l thread None seen found same = cc
line_accepted l thread (Some line) seen found same =
    accepted_by l thread line.number line.told.image line.told.action seen found same

legal_turn : (l : Loads ℕ) (fuel i : ℕ) (w : Shared ℕ Bool ℕ Line) (t : Option (Thread Runs Line Event))
    → Legal l w.events
    → Legal l (shared_turn (λ thread. thread_turns l thread fuel) (λ thread. event_by l thread) w i t).events
legal_turn l fuel i w None legal = legal
legal_turn l fuel i w (Some t) legal =
    legal_with l w.events (event_of (event_by l i) t w.events) legal
    (λ found same. line_accepted l i (next_line t.todo t.phase) w.events found same)

legal_order : (l : Loads ℕ) (fuel : ℕ) (order : List ℕ) (w : Shared ℕ Bool ℕ Line) → Legal l w.events
    → Legal l (shared_order (λ thread. thread_turns l thread fuel) (λ thread. event_by l thread) order w).events
legal_order l fuel [] w legal = legal
legal_order l fuel (i ∷ order) w legal =
    legal_order l fuel order
    (shared_turn (λ thread. thread_turns l thread fuel) (λ thread. event_by l thread) w i (at_number w.threads i))
    (legal_turn l fuel i w (at_number w.threads i) legal)

none_legal : (l : Loads ℕ) → Legal l []
unfolding is_legal
none_legal l = refl

pub histories_legal : HistoriesAreLegal
unfolding job_world
histories_legal l fuel lines order =
    legal_order l fuel (whole_order (4 * fuel) lines order) (job_start plain_operations l lines) (none_legal l)
