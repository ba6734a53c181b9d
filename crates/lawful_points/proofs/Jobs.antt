-- The points of every job's threads are lawful.
use Rattle.std.proofs.Common.{◌≡◌, ◌∙◌, ◌*◌, ℕ, zero, suc, Bool, true, false, List, [], map, Option, Some, None, refl}
use Rattle.std.proofs.Common.{sym, ap, subst, arith}
use Rattle.std.specs.Prelude.{option_map, slice_get}
use Rattle.std.proofs.lemmas.Option.{same_Some, slice_get-map}
use Rattle.job_text.specs.declared.thread_lines.Action.{Action}
use Rattle.job_text.specs.declared.thread_lines.Action.TheVariants.{Call, Open, Close, Peek}
use Rattle.job_text.specs.declared.thread_lines.ThreadLine.{ThreadLine}
use Rattle.guest_arithmetic.specs.Plain.{plain_operations}
use Rattle.module_table.specs.declared.events.Event.{Event}
use Rattle.module_table.specs.Past.{open_refusal, close_refusal}
use Rattle.transcript_text.specs.declared.outcomes.Line.{Line as ShownLine}
use Rattle.transcript_text.specs.Texts.{Shown}
use Rattle.thread_blocks.specs.MachineTurns.{shown}
use Rattle.thread_blocks.specs.Instances.{Loads, left_by}
use Rattle.thread_blocks.specs.JobWorlds.{Shared, Tells, job_start, job_world, numbered_lines, thread_ready}
use Rattle.thread_blocks.specs.Lines.{Line, event_at, event_by, unless_refused}
use Rattle.thread_blocks.specs.RunTime.{Runs, shows, thread_turns}
use Rattle.thread_blocks.specs.Turns.{IsFinished, Thread, at_number, ready, whole_order}
use Rattle.thread_blocks.proofs.Endings.{thread_at, threads_ended}
use Rattle.lawful_points.specs.Laws.{LinesTellLooks, LooksAreLawful, PointsAreLawful}
use Rattle.lawful_points.specs.Orders.{job_looks}
use Rattle.lawful_points.specs.Points.{AreLawful}
use Rattle.lawful_points.specs.Told.{points_of, told_by}
use Rattle.lawful_points.specs.ToldLaws.{AreLawfulPoints}
use Rattle.lawful_points.proofs.Histories.{order_lawful}
use Rattle.lawful_points.proofs.Numbers.{numbers_lawful}
use Rattle.lawful_points.proofs.Orders.{HasAt, order_told}
use Rattle.lawful_points.proofs.Telling.{HasTold, TellsBegun, begin_tells, first_told, last_told, said_by, shown_said}

-- ** an event names the thread whose line it is

unless_named : {R : Type 0} (thread : ℕ) (refusal : Option R) (e found : Event) → e.thread ≡ thread
    → unless_refused refusal e ≡ Some found → found.thread ≡ thread
unless_named thread None e found is same = let here : e ≡ found = cc in subst (λ (x : Event). x.thread ≡ thread) here is
unless_named thread (Some refusal) e found is same = cc

action_named : {B : Type 0} (l : Loads B) (thread number image : ℕ) (action : Action) (seen : List Event)
    (found : Event)
    → event_by l thread (record { number = number; told = record { image = image; action = action } }) seen ≡ Some found
    → found.thread ≡ thread
action_named l thread number image (Call symbol a b c) seen found same = cc
action_named l thread number image Open seen found same =
    unless_named thread (open_refusal (left_by l seen) image) (event_at thread number true image) found refl same
action_named l thread number image Close seen found same =
    unless_named thread (close_refusal (left_by l seen) image) (event_at thread number false image) found refl same
action_named l thread number image (Peek symbol size) seen found same = cc

pub event_named : {B : Type 0} (l : Loads B) (thread : ℕ) (line : Line) (seen : List Event) (found : Event)
    → event_by l thread line seen ≡ Some found → found.thread ≡ thread
event_named l thread line seen found same =
    action_named l thread line.number line.told.image line.told.action seen found same

-- ** the job

module _ (l : Loads ℕ) (fuel : ℕ) where
  pub turns_tell : (i : ℕ) (line : Line) (seen : List Event) (h : Runs)
      → TellsBegun i line (event_by l i line seen) ((thread_turns l i fuel).begin line seen h)
  unfolding thread_turns
  turns_tell i line seen h = begin_tells plain_operations l (shows l i) i line seen h

  module _ (lines : List (List ThreadLine)) (order : List ℕ) where
    lawful : (thread : ℕ) → AreLawful thread (job_world l fuel lines order).events (job_looks l fuel lines order thread)
    unfolding job_world job_looks
    lawful thread =
        order_lawful (λ i. thread_turns l i fuel) (λ i. event_by l i)
        (λ i line seen e same. event_named l i line seen e same)
        thread (whole_order (4 * fuel) lines order) (job_start plain_operations l lines) refl

    -- what thread i told
    told_at : (i : ℕ) (own : List ThreadLine) → at_number lines (suc i) ≡ Some own
        → HasAt (λ i. thread_turns l i fuel) (λ i. event_by l i) (λ i line seen h. turns_tell i line seen h) i
        (numbered_lines 1 own) (job_world l fuel lines order) (points_of (job_looks l fuel lines order (suc i)))
    unfolding job_world job_looks
    told_at i own at =
        order_told (λ i. thread_turns l i fuel) (λ i. event_by l i) (λ i line seen h. turns_tell i line seen h) i
        (numbered_lines 1 own) (whole_order (4 * fuel) lines order) (job_start plain_operations l lines) [] (
          ready (thread_ready plain_operations l (suc i)) (numbered_lines 1 own),
          (
            thread_at l 1 lines i (suc i) own (omega arith) at,
            first_told (suc i) (thread_turns l (suc i) fuel) (event_by l (suc i)) (λ line seen h. turns_tell
                (suc i) line seen h)
                (numbered_lines 1 own) (thread_ready plain_operations l (suc i)),
          ),
        )

-- the laws
pub looks_lawful : LooksAreLawful
looks_lawful l fuel lines order thread = lawful l fuel lines order thread

-- what thread i says of its lines
pub said_lines : (l : Loads ℕ) (fuel : ℕ) (lines : List (List ThreadLine)) (order : List ℕ) (i : ℕ)
    (own : List ThreadLine)
    (t : Thread Runs Line Event) → at_number lines (suc i) ≡ Some own
    → at_number (job_world l fuel lines order).threads (suc i) ≡ Some t
    → said_by (suc i) (numbered_lines 1 own) t.said ≡ points_of (job_looks l fuel lines order (suc i))
said_lines l fuel lines order i own t at found =
    let ended = threads_ended l fuel lines order (suc i) own at in
    let told = told_at l fuel lines order i own at in
    let looks = points_of (job_looks l fuel lines order (suc i)) in
    let over : IsFinished t.todo t.phase =
    subst (λ (u : Thread Runs Line Event). IsFinished u.todo u.phase)
    (same_Some ended.0 t (sym ended.1.0 ∙ found)) ended.1.1 in
    let at_end : HasTold (suc i) (numbered_lines 1 own) t.todo t.phase t.said looks =
    subst (λ (u : Thread Runs Line Event). HasTold (suc i) (numbered_lines 1 own) u.todo u.phase u.said looks)
    (same_Some told.0 t (sym told.1.0 ∙ found)) told.1.1 in
    last_told (suc i) (thread_turns l (suc i) fuel) (event_by l (suc i))
    (λ line seen h. turns_tell l fuel (suc i) line seen h)
    (numbered_lines 1 own) t.todo t.phase t.said looks over at_end

-- what a transcript shows of thread i
pub shown_at : (transcript : Shown) (w : Shared ℕ Bool ℕ Line) (i : ℕ) (said : List ShownLine)
    (t : Thread Runs Line Event)
    → Tells w transcript → slice_get transcript.threads i ≡ Some said → slice_get w.threads i ≡ Some t
    → map Some said ≡ map shown t.said
shown_at transcript w i said t told found there =
    let says : List ShownLine → List (Option ShownLine) = map (λ (line : ShownLine). Some line) in
    let shows : Thread Runs Line Event → List (Option ShownLine) = λ t. map shown t.said in
    same_Some (map Some said) (map shown t.said)
    (ap (option_map says) (sym found) ∙ (sym (slice_get-map says transcript.threads i)
    ∙ (ap (λ (xs : List (List (Option ShownLine))). slice_get xs i) told.lines
    ∙ (slice_get-map shows w.threads i ∙ ap (option_map shows) there))))

pub lines_tell : LinesTellLooks
lines_tell l fuel lines order transcript told zero own said at found = cc
lines_tell l fuel lines order transcript told (suc i) own said at found =
    let ended = threads_ended l fuel lines order (suc i) own at in
    shown_said (suc i) (numbered_lines 1 own) said ended.0.said
    (shown_at transcript (job_world l fuel lines order) i said ended.0 told found ended.1.0)
    ∙ said_lines l fuel lines order i own ended.0 at ended.1.0

pub points_lawful : PointsAreLawful
points_lawful l fuel lines order transcript told thread own said at found =
    let looks = job_looks l fuel lines order thread in
    subst (λ (h : List Event). AreLawfulPoints thread h (told_by thread (numbered_lines 1 own) said)) (sym told.events)
    (subst (AreLawfulPoints thread (job_world l fuel lines order).events)
    (sym (lines_tell l fuel lines order transcript told thread own said at found))
    (numbers_lawful thread (job_world l fuel lines order).events looks (looks_lawful l fuel lines order thread)))
