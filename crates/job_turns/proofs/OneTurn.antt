-- One turn: of a thread that has nothing left to do, and of one that has.
use Rattle.std.proofs.Common.{◌≡◌, ◌+◌, ◌++◌, ℕ, zero, suc, Bool, true, List, [], ◌∷◌, length, drop, Option, Some, None}
use Rattle.std.proofs.Common.{refl, sym, ap, subst, ◌∙◌, append-nil}
use Rattle.std.specs.Prelude.{option_and_then, slice_get, slice_set}
use Rattle.std.proofs.Math.Seq.{drop-append_seam}
use Rattle.job_text.specs.declared.thread_lines.Action.{Action}
use Rattle.job_text.specs.declared.thread_lines.Action.TheVariants.{Call, Open, Close, Peek}
use Rattle.job_text.specs.declared.thread_lines.ThreadLine.{ThreadLine}
use Rattle.loaded_modules.specs.Images.{JobImages, infos, last_offset}
use Rattle.module_data.specs.Pieces.{Piece}
use Rattle.module_table.specs.declared.events.Event.{Event}
use Rattle.module_table.specs.History.{History, left}
use Rattle.module_table.specs.Past.{Past, after, past}
use Rattle.module_table.specs.Walks.{past-append, seen-past}
use Rattle.thread_blocks.specs.Held.{Owned, owned_by}
use Rattle.thread_blocks.specs.JobLoads.{job_loads}
use Rattle.thread_blocks.specs.JobWorlds.{Shared, data_in, held_in, numbered_lines, shared_turn, with_data}
use Rattle.thread_blocks.specs.JobWorlds.{without_data}
use Rattle.thread_blocks.specs.Lines.{Line, event_by}
use Rattle.thread_blocks.specs.RunTime.{Runs, thread_turns}
use Rattle.thread_blocks.specs.Turns.{Idle, Mid, Phase, Thread, event_of, next_line, turn, with_event}
use Rattle.job_turns.specs.declared.asking.Ask.{Ask}
use Rattle.job_turns.specs.declared.asking.Ask.TheVariants.{Done, Look, Opens, Closes}
use Rattle.job_turns.specs.Asking.{ask_by, ask_next}
use Rattle.thread_space.specs.Kept.{HasSeen, Kept, shared_of}
use Rattle.job_turns.specs.Standing.{PhaseIs, Run, StandsAfter, StandsFor, TakesTurn, Waiting, ask_now, ask_of}
use Rattle.job_turns.specs.Progress.{IsRunner, Runners, Stands, is_done, is_over, job_order}
use Rattle.thread_turns.specs.Orders.{is_over as is_none_left, is_thread_over}
use Rattle.job_turns.specs.Turning.{Turned, event_asked}
use Rattle.job_turns.proofs.FinishedTurns.{done_adds_none, done_shared, done_stands, done_turn}
use Rattle.thread_turns.proofs.Lists.{at_drop, beside, none_beside, none_drop, set_same}
use Rattle.job_turns.proofs.Standings.{Behind, stands_then}

-- ---- nothing left to do

pub is_done_done : (ask : Ask) → is_done ask ≡ true → ask ≡ Done
is_done_done Done done = refl
is_done_done (Look line) done = cc
is_done_done (Opens line image) done = cc
is_done_done (Closes line image) done = cc

module _ (m : JobImages) (fuel : ℕ) (w : Shared ℕ Bool ℕ Line) (x : Runners) (stands : Stands m fuel w x) where
  abbrev turned_by : ℕ → Option (Thread Runs Line Event) → Shared ℕ Bool ℕ Line
  turned_by thread t =
      shared_turn (λ n. thread_turns (job_loads m) n fuel) (λ n. event_by (job_loads m) n) w thread t

  abbrev left_now : Past
  left_now = past (infos m) (last_offset m) w.events

  abbrev shared_now : List (Owned ℕ)
  shared_now = shared_of m left_now x.shared.pieces

  module _ (k : ℕ) (r : Run) (t : Thread Runs Line Event) (at_r : slice_get x.runs k ≡ Some r)
      (at_t : slice_get w.threads k ≡ Some t) where
    runner : IsRunner m fuel (suc k) w.events r t
    runner = stands.each k r t at_r at_t

    module _ (done : ask_of r ≡ Done) where
      done_behind : Behind m fuel w x stands None k x.shared.registry x.shared.pieces r
          (without_data (with_data shared_now t)) shared_now
      done_behind = record {
        infos_are = refl;
        last_is = refl;
        events_are = stands.events_are;
        legal = rw (stands.infos_are, stands.last_is, stands.events_are) stands.legal;
        pieces_are = refl;
        shared_is = refl;
        runner = record {
          thread_is = runner.thread_is;
          images_are = runner.images_are;
          fuel_is = runner.fuel_is;
          stands = done_stands r t runner.stands done
              (thread_turns (job_loads m) (suc k) fuel) w.events m left_now x.shared.pieces;
          front = runner.front;
          rest = runner.rest;
          events_are = runner.events_are;
          has_seen = runner.has_seen;
        };
      }

      done_world : turned_by (suc k) (Some t)
          ≡ record {
            threads = slice_set w.threads k (without_data (with_data shared_now t));
            events = w.events;
            shared = shared_now;
          }
      done_world =
          let turns = thread_turns (job_loads m) (suc k) fuel in
          rw (
            stands.shared_is,
            done_turn r t runner.stands done turns w.events m left_now x.shared.pieces,
            done_adds_none r t runner.stands done turns w.events m left_now x.shared.pieces
                (event_by (job_loads m) (suc k)),
            done_shared r t runner.stands done turns w.events m left_now x.shared.pieces,
          ) refl

      done_stays : Stands m fuel (turned_by (suc k) (Some t)) x
      done_stays =
          let same : record { shared = x.shared; runs = slice_set x.runs k r } ≡ x =
          ap (λ runs. record { shared = x.shared; runs = runs }) (set_same x.runs k r at_r) in
          rw done_world
          (subst (λ y. Stands m fuel
          (record {
            threads = slice_set w.threads k (without_data (with_data shared_now t));
            events = w.events;
            shared = shared_now;
          }) y)
          same
          (stands_then m fuel w x stands None k x.shared.registry x.shared.pieces r
          (without_data (with_data shared_now t)) shared_now done_behind))

  over_stays_at : (k : ℕ) (r : Option Run) → slice_get x.runs k ≡ r → is_none_left is_over r ≡ true
      → Stands m fuel (turned_by (suc k) (slice_get w.threads k)) x
  over_stays_at k None at over = rw (none_beside x.runs w.threads k stands.count at) stands
  over_stays_at k (Some r) at over =
      let found = beside x.runs w.threads k r stands.count at in
      rw found.1 (done_stays k r found.0 at found.1 (is_done_done (ask_of r) over))

  pub over_stays : (thread : ℕ) → is_thread_over is_over x.runs thread ≡ true
      → Stands m fuel (job_order m fuel (thread ∷ []) w) x
  over_stays zero over = stands
  over_stays (suc k) over = over_stays_at k (slice_get x.runs k) refl over

-- ---- the event of a turn

module _ (m : JobImages) (thread : ℕ) (seen : List Event) where
  abbrev event_to : Ask → Option Event
  event_to ask = event_asked thread (past (infos m) (last_offset m) seen) ask

  abbrev event_in : Option Line → Option Event
  event_in line = option_and_then (λ x. event_by (job_loads m) thread x seen) line

  by_action : (number image : ℕ) (action : Action)
      → event_by (job_loads m) thread
      (record { number = number; told = record { image = image; action = action } }) seen
      ≡ event_to (ask_by number image action)
  unfolding job_loads
  by_action number image (Call symbol a b c) = refl
  by_action number image Open = refl
  by_action number image Close = refl
  by_action number image (Peek symbol size) = refl

  mid_none : (todo : List Line) (steps : ℕ) (points : List ℕ) (h : Runs)
      → event_in (next_line todo (Mid steps points h)) ≡ None
  mid_none [] steps points h = refl
  mid_none (line ∷ todo) steps points h = refl

  next_event : (begun : ℕ) (lines : List ThreadLine) (h : Runs) (line : Option ThreadLine)
      → slice_get lines begun ≡ line
      → event_in (next_line (numbered_lines (begun + 1) (drop begun lines)) (Idle h))
      ≡ event_to (ask_next (begun + 1) line)
  next_event begun lines h None at = rw (none_drop lines begun at) refl
  next_event begun lines h (Some line) at =
      rw (at_drop lines begun line at) (by_action (begun + 1) line.image line.action)

  phase_event : (k : Kept) (fuel begun : ℕ) (lines : List ThreadLine) (call : Option Waiting) (todo : List Line)
      (phase : Phase Runs)
      → todo ≡ numbered_lines (begun + 1) (drop begun lines) → PhaseIs k fuel call phase
      → event_in (next_line todo phase) ≡ event_to (ask_now begun lines call)
  phase_event k fuel begun lines None todo (Idle h) are is =
      rw are (next_event begun lines h (slice_get lines begun) refl)
  phase_event k fuel begun lines None todo (Mid steps points h) are is = absurd is
  phase_event k fuel begun lines (Some call) todo (Idle h) are is = absurd is
  phase_event k fuel begun lines (Some call) todo (Mid steps points h) are is = mid_none todo steps points h

  pub event_is : (r : Run) (t : Thread Runs Line Event) → StandsFor r t
      → event_of (event_by (job_loads m) thread) t seen ≡ event_to (ask_of r)
  event_is r t stands = phase_event r.kept r.fuel r.begun r.lines r.call t.todo t.phase stands.todo stands.phase

-- ---- a turn of a runner

-- with the job's images, its fuel and the thread's number named otherwise
takes_as : (m : JobImages) (fuel thread : ℕ) (r r' : Run) (rest seen : List Event) (d d' : List Piece)
    (t : Thread Runs Line Event)
    (xs : List (Owned ℕ))
    → r.kept.vector.images ≡ m → r.kept.vector.thread ≡ thread → r.fuel ≡ fuel → StandsFor r t
    → TakesTurn r rest d r' d'
    → past (infos m) (last_offset m) seen ≡ after r.kept.vector.past rest
    → xs ≡ shared_of m (past (infos m) (last_offset m) seen) d
    → StandsAfter r' d' (with_event seen (event_of (event_by (job_loads m) thread) t seen))
    (turn (thread_turns (job_loads m) thread fuel) (with_data xs t) seen)
takes_as m fuel thread r r' rest seen d d' t xs images_are thread_is fuel_is stands takes leaves shared_is =
    rw (shared_is, leaves, ← images_are, ← thread_is, ← fuel_is)
    (takes.turns t seen stands (rw images_are leaves))

-- what its past leaves of the history
pub seen_front : (m : JobImages) (r : Run) (front : List Event) → HasSeen r.kept.vector front
    → r.kept.vector.past.seen ≡ length front
seen_front m r front has_seen =
    ap (λ (p : Past). p.seen) (sym has_seen)
    ∙ seen-past (infos r.kept.vector.images) (last_offset r.kept.vector.images) front

pub rest_is : (r : Run) (events front rest : List Event) → events ≡ front ++ rest → HasSeen r.kept.vector front
    → drop r.kept.vector.past.seen events ≡ rest
rest_is r events front rest are has_seen =
    rw (are, seen_front r.kept.vector.images r front has_seen) (drop-append_seam front rest)

pub rest_leaves : (r : Run) (events front rest : List Event) → events ≡ front ++ rest → HasSeen r.kept.vector front
    → past (infos r.kept.vector.images) (last_offset r.kept.vector.images) events ≡ after r.kept.vector.past rest
rest_leaves r events front rest are has_seen =
    rw are (past-append (infos r.kept.vector.images) (last_offset r.kept.vector.images) front rest
    ∙ ap (λ p. after p rest) has_seen)

module _ (m : JobImages) (fuel : ℕ) (w : Shared ℕ Bool ℕ Line) (x : Runners) (stands : Stands m fuel w x)
    (k : ℕ) (r : Run) (t : Thread Runs Line Event) (is : IsRunner m fuel (suc k) w.events r t)
    (h : History) (d : List Piece) (r' : Run) (turned : Turned x.shared.registry x.shared.pieces r h d r') where
  abbrev adds : Option Event
  adds = event_of (event_by (job_loads m) (suc k)) t w.events

  abbrev then : Thread Runs Line Event
  then = turn (thread_turns (job_loads m) (suc k) fuel) (with_data w.shared t) w.events

  history_leaves : left x.shared.registry ≡ past (infos m) (last_offset m) w.events
  unfolding left
  history_leaves = rw (stands.infos_are, stands.last_is, stands.events_are) refl

  rest_taken : drop r.kept.vector.past.seen x.shared.registry.events ≡ is.rest
  rest_taken = rest_is r x.shared.registry.events is.front is.rest (stands.events_are ∙ is.events_are) is.has_seen

  leaves : past (infos m) (last_offset m) w.events ≡ after r.kept.vector.past is.rest
  leaves = rw (← is.images_are) (rest_leaves r w.events is.front is.rest is.events_are is.has_seen)

  after_turn : StandsAfter r' d (with_event w.events adds) then
  after_turn = takes_as m fuel
      (suc k) r r' is.rest w.events x.shared.pieces d t w.shared is.images_are is.thread_is is.fuel_is
      is.stands (subst (λ rest. TakesTurn r rest x.shared.pieces r' d) rest_taken turned.takes) leaves stands.shared_is

  images_then : r'.kept.vector.images ≡ m
  images_then = turned.takes.same.images ∙ is.images_are

  events_then : h.events ≡ with_event w.events adds
  events_then = turned.adds.events_are
      ∙ rw (history_leaves, stands.events_are, is.thread_is, event_is m (suc k) w.events r t is.stands) refl

  past_then : r'.kept.vector.past ≡ past (infos m) (last_offset m) (with_event w.events adds)
  past_then = sym after_turn.has_seen ∙ rw images_then refl

  behind : Behind m fuel w x stands adds k h d r' (without_data then) (data_in (owned_by (held_in then.phase)))
  behind = record {
    infos_are = turned.adds.infos_are;
    last_is = turned.adds.last_is;
    events_are = events_then;
    legal = turned.adds.legal;
    pieces_are = turned.pieces_are;
    shared_is = after_turn.shared ∙ rw (images_then, past_then) refl;
    runner = record {
      thread_is = turned.takes.same.thread ∙ is.thread_is;
      images_are = images_then;
      fuel_is = turned.takes.same.fuel ∙ is.fuel_is;
      stands = after_turn.stands;
      front = with_event w.events adds;
      rest = [];
      events_are = sym (append-nil (with_event w.events adds));
      has_seen = after_turn.has_seen;
    };
  }

  turn_stands : Stands m fuel (turned_by m fuel w x stands (suc k) (Some t))
      (record { shared = record { registry = h; pieces = d }; runs = slice_set x.runs k r' })
  turn_stands = stands_then m fuel w x stands adds k h d r' (without_data then)
      (data_in (owned_by (held_in then.phase))) behind

pub turned_stands : (m : JobImages) (fuel : ℕ) (w : Shared ℕ Bool ℕ Line) (x : Runners) (k : ℕ) (r : Run)
    (h : History) (d : List Piece) (r' : Run) → slice_get x.runs k ≡ Some r
    → Turned x.shared.registry x.shared.pieces r h d r'
    → Stands m fuel w x
    → Stands m fuel (job_order m fuel (suc k ∷ []) w)
    (record { shared = record { registry = h; pieces = d }; runs = slice_set x.runs k r' })
turned_stands m fuel w x k r h d r' at turned stands =
    let found = beside x.runs w.threads k r stands.count at in
    rw found.1
    (turn_stands m fuel w x stands k r found.0 (stands.each k r found.0 at found.1) h d r' turned)
