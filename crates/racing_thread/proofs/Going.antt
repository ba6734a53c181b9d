-- How far a thread that races has come, and one turn more.
use Rattle.std.proofs.Common.{◌≡◌, ◌∙◌, ◌+◌, ◌++◌, ℕ, Bool, false, List, [], ◌∷◌, length, drop, Option, Some, None}
use Rattle.std.proofs.Common.{refl, sym, ap, subst, arith}
use Rattle.std.specs.Prelude.{All, option_and_then}
use Rattle.std.proofs.Math.Seq.{drop-append_seam}
use Rattle.job_text.specs.declared.thread_lines.ThreadLine.{ThreadLine}
use Rattle.job_text.specs.Jobs.{JobParts}
use Rattle.job_text.specs.Threads.{IsThread, of_thread}
use Rattle.loaded_modules.specs.Images.{JobImages, infos, last_offset}
use Rattle.module_table.specs.declared.events.Event.{Event}
use Rattle.module_table.specs.Past.{Past, after, past}
use Rattle.shared_modules.specs.declared.board.Images.{Images}
use Rattle.shared_modules.specs.Passes.{PassView, SharedView, IsSamePass}
use Rattle.shared_modules.specs.Views.{Knows}
use Rattle.lawful_points.specs.Orders.{is_over, look_at}
use Rattle.lawful_points.specs.Points.{AreLawful, Look}
use Rattle.lawful_points.specs.Raced.{first_of, raced_looks, raced_of}
use Rattle.lawful_points.specs.Told.{Point, points_of}
use Rattle.lawful_points.proofs.Jobs.{event_named, turns_tell}
use Rattle.lawful_points.proofs.Telling.{HasTold, turn_told}
use Rattle.thread_blocks.specs.JobLoads.{job_loads}
use Rattle.thread_blocks.specs.Lines.{Line, event_by}
use Rattle.thread_blocks.specs.RunTime.{Runs, thread_turns}
use Rattle.thread_blocks.specs.Turns.{Thread, Turns, event_of, next_line, turn, with_event}
use Rattle.thread_space.specs.Kept.{HasSeen}
use Rattle.job_turns.specs.Alone.{StandsAlone, TakesOwnTurn, has_data}
use Rattle.job_turns.specs.Standing.{IsGoing, Run, StandsFor, ask_of}
use Rattle.job_turns.specs.Turning.{event_asked}
use Rattle.job_turns.proofs.OneTurn.{event_is, rest_leaves}
use Rattle.racing_thread.specs.Answers.{IsLevel, TakesRacingTurn, left_by}
use Rattle.racing_thread.specs.Racing.{IsOfProgram, lines_in}
use Rattle.racing_thread.specs.Tallies.{Mark, Tally, is_registry, look_tally, plus, tally_from}
use Rattle.racing_thread.proofs.Asked.{goes, registry_is}
use Rattle.racing_thread.proofs.FirstThread.{is_going}
use Rattle.racing_thread.proofs.Looking.{known_by, known_more, lawful_more, looks_more, turns_more}
use Rattle.racing_thread.proofs.Marking.{HasMarked, asks_registry, mark, turn_marks}
use Rattle.racing_thread.proofs.Named.{more_named}
use Rattle.racing_thread.proofs.Tallying.{after_is, behind_more, seen_behind, tally_more}

-- ** what is so of points, whatever runner there is

-- a thread of the definitions that took its turns at these points, in a history of which this is seen
pub record Behind (m : JobImages) (job : JobParts) (thread : ℕ) (seen : List Event) (points : List (List Event))
    (marks : List Mark) : Type 0 where
  pub lawful : AreLawful thread seen (raced_looks (job_loads m) job.fuel thread (of_thread job.lines thread) points)
  pub known : known_by [] (raced_looks (job_loads m) job.fuel thread (of_thread job.lines thread) points) ≡ seen
  pub told : let t = raced_of (job_loads m) job.fuel thread (of_thread job.lines thread) points in
      HasTold thread (lines_in job thread) t.todo t.phase t.said
      (points_of (raced_looks (job_loads m) job.fuel thread (of_thread job.lines thread) points))
  pub marked : let t = raced_of (job_loads m) job.fuel thread (of_thread job.lines thread) points in
      HasMarked thread (lines_in job thread) t.todo t.phase t.said marks
  pub reached : seen_behind 0 marks ≡ length seen

-- what the pass counted since the first
pub record Counts (first p : PassView) (marks : List Mark) : Type 0 where
  pub loads_are : p.loads ≡ first.loads + (tally_from 0 marks).loads
  pub turns_are : p.turns ≡ first.turns + (tally_from 0 marks).turns

-- a runner on its way
pub record Going (m : JobImages) (job : JobParts) (thread : ℕ) (first : PassView) (r : Run) (events : List Event)
    (p : PassView) : Type 0 where
  pub level : IsLevel r p events
  pub thread_is : r.kept.vector.thread ≡ thread
  pub images_are : r.kept.vector.images ≡ m
  pub fuel_is : r.fuel ≡ job.fuel
  pub points : List (List Event)
  pub marks : List Mark
  pub stands : StandsFor r (raced_of (job_loads m) job.fuel thread (of_thread job.lines thread) points)
  pub behind : Behind m job thread p.seen points marks
  pub counts : Counts first p marks
  pub named : IsThread 64 thread → All IsOfProgram p.seen

-- ** a turn

-- with the job's images, its fuel and the thread's number named otherwise
alone_as : (m : JobImages) (fuel thread : ℕ) (r r' : Run) (rest seen : List Event) (t : Thread Runs Line Event)
    → r.kept.vector.images ≡ m → r.kept.vector.thread ≡ thread → r.fuel ≡ fuel → StandsFor r t → TakesOwnTurn r rest r'
    → past (infos m) (last_offset m) seen ≡ after r.kept.vector.past rest
    → StandsAlone r' (with_event seen (event_of (event_by (job_loads m) thread) t seen))
    (turn (thread_turns (job_loads m) thread fuel) t seen)
alone_as m fuel thread r r' rest seen t images_are thread_is fuel_is stands takes leaves =
    rw (← images_are, ← thread_is, ← fuel_is) (takes.turns t seen stands (rw images_are leaves))

points_more : (looks : List Look) (look : Look)
    → points_of (looks ++ look ∷ []) ≡ points_of looks ++ record { number = length look.seen; added = look.added } ∷ []
points_more [] look = refl
points_more (first ∷ looks) look =
    ap (λ (more : List Point). record { number = length first.seen; added = first.added } ∷ more)
    (points_more looks look)

line_named : (m : JobImages) (thread : ℕ) (line : Option Line) (seen : List Event) (e : Event)
    → option_and_then (λ (x : Line). event_by (job_loads m) thread x seen) line ≡ Some e → e.thread ≡ thread
line_named m thread None seen e same = cc
line_named m thread (Some line) seen e same = event_named (job_loads m) thread line seen e same

-- points, with one more at a history that others continued
module _ (m : JobImages) (job : JobParts) (thread : ℕ) (seen history : List Event) (points : List (List Event))
    (marks : List Mark) (b : Behind m job thread seen points marks) where
  abbrev own : List ThreadLine
  own = of_thread job.lines thread

  abbrev x : Turns Runs Line Event
  x = thread_turns (job_loads m) thread job.fuel

  abbrev event : Line → List Event → Option Event
  event = event_by (job_loads m) thread

  abbrev old : Thread Runs Line Event
  old = raced_of (job_loads m) job.fuel thread own points

  abbrev added : Option Event
  added = event_of event old history

  abbrev looks : List Look
  looks = raced_looks (job_loads m) job.fuel thread own points

  abbrev last : Mark
  last = mark (asks_registry (next_line old.todo old.phase)) (length history) added

  then_is : raced_of (job_loads m) job.fuel thread own (points ++ history ∷ []) ≡ turn x old history
  then_is = turns_more x event points (first_of (job_loads m) thread own) history

  looks_are : raced_looks (job_loads m) job.fuel thread own (points ++ history ∷ []) ≡ looks
      ++ look_at event old history ∷ []
  looks_are = looks_more x event points (first_of (job_loads m) thread own) history

  module _ (knows : Knows history (thread ∷ []) seen) (going : is_over old.todo old.phase ≡ false) where
    pub one_more : Behind m job thread (with_event history added) (points ++ history ∷ []) (marks ++ last ∷ [])
    one_more = record {
      lawful = rw looks_are
          (lawful_more thread seen history knows looks (look_at event old history) refl
          (λ e same. line_named m thread (next_line old.todo old.phase) history e same) b.lawful b.known);
      known = rw looks_are (known_more looks [] (look_at event old history));
      told = rw (then_is, looks_are, points_more looks (look_at event old history))
          (turn_told thread x event (λ line seen h. turns_tell (job_loads m) job.fuel thread line seen h)
          (lines_in job thread)
          old history (points_of looks) b.told going);
      marked = rw then_is
          (turn_marks thread x event (λ line seen h. turns_tell (job_loads m) job.fuel thread line seen h)
          (λ line seen h. goes (job_loads m) job.fuel thread line seen h)
          (lines_in job thread) old history marks b.marked going);
      reached = behind_more marks 0 last ∙ after_is (asks_registry (next_line old.todo old.phase)) history added;
    }

module _ (m : JobImages) (job : JobParts) (thread : ℕ) (first : PassView) (r : Run) (events : List Event) (p : PassView)
    (g : Going m job thread first r events p) (events' : List Event) (q : PassView) (r' : Run)
    (takes : TakesRacingTurn r p events' q r') (same : IsSamePass p q) (going : IsGoing (ask_of r)) where
  abbrev history : List Event
  history = takes.history

  abbrev before : Thread Runs Line Event
  before = raced_of (job_loads m) job.fuel thread (of_thread job.lines thread) g.points

  abbrev adds : Option Event
  adds = event_of (event_by (job_loads m) thread) before history

  knows : Knows history (thread ∷ []) p.seen
  knows = subst (λ (threads : List ℕ). Knows history threads p.seen)
      (g.level.threads_are ∙ ap (λ (n : ℕ). n ∷ []) g.thread_is) takes.finds.known

  rest_taken : drop (length p.seen) history ≡ takes.finds.known.rest
  rest_taken = ap (drop (length p.seen)) takes.finds.known.whole ∙ drop-append_seam p.seen takes.finds.known.rest

  leaves : past (infos m) (last_offset m) history ≡ after r.kept.vector.past (drop (length p.seen) history)
  leaves = subst (λ (i : JobImages). past (infos i) (last_offset i) history
      ≡ after r.kept.vector.past (drop (length p.seen) history))
      g.images_are
      (rest_leaves r history p.seen takes.finds.known.rest takes.finds.known.whole g.level.has_seen
      ∙ ap (after r.kept.vector.past) (sym rest_taken))

  stands_then : StandsAlone r' (with_event history adds)
      (turn (thread_turns (job_loads m) thread job.fuel) before history)
  stands_then = alone_as m job.fuel thread r r'
      (drop (length p.seen) history) history before g.images_are g.thread_is g.fuel_is
      g.stands takes.takes leaves

  left_is : left_by p history ≡ past (infos m) (last_offset m) history
  left_is = ap (λ (images : Images). past images.infos images.last_offset history) g.level.images_are
      ∙ ap (λ (i : JobImages). past (infos i) (last_offset i) history) g.images_are

  adds_is : event_asked r.kept.vector.thread (left_by p history) (ask_of r) ≡ adds
  adds_is = ap (λ (n : ℕ). event_asked n (left_by p history) (ask_of r)) g.thread_is
      ∙ (ap (λ (left : Past). event_asked thread left (ask_of r)) left_is
      ∙ sym (event_is m thread history r before g.stands))

  seen_then : q.seen ≡ with_event history adds
  seen_then = takes.finds.seen_is ∙ ap (with_event history) adds_is

  level_then : IsLevel r' q events'
  level_then = record {
    events_are = takes.events_are;
    has_seen = subst (HasSeen r'.kept.vector) (sym seen_then) stands_then.has_seen;
    threads_are = same.threads ∙ (g.level.threads_are ∙ ap (λ (n : ℕ). n ∷ []) (sym takes.takes.same.thread));
    images_are = ap (λ (s : SharedView). s.images) same.shared
        ∙ (g.level.images_are
        ∙ ap (λ (i : JobImages). record { infos = infos i; last_offset = last_offset i })
        (sym takes.takes.same.images));
    no_data = ap has_data takes.takes.same.images ∙ g.level.no_data;
  }

  abbrev next : Mark
  next = mark (asks_registry (next_line before.todo before.phase)) (length history) adds

  cost_is : look_tally next.registry (seen_behind 0 g.marks) (length history)
      ≡ look_tally (is_registry (ask_of r)) (length p.seen) (length history)
  cost_is =
      ap (λ (b : Bool). look_tally b (seen_behind 0 g.marks) (length history)) (registry_is r before g.stands)
      ∙ ap (λ (n : ℕ). look_tally (is_registry (ask_of r)) n (length history)) g.behind.reached

  total : tally_from 0 (g.marks ++ next ∷ [])
      ≡ plus (tally_from 0 g.marks) (look_tally (is_registry (ask_of r)) (length p.seen) (length history))
  total = tally_more g.marks 0 next ∙ ap (plus (tally_from 0 g.marks)) cost_is

  counts_then : Counts first q (g.marks ++ next ∷ [])
  counts_then =
      let loads = ap (λ (t : Tally). t.loads) total in
      let turns = ap (λ (t : Tally). t.turns) total in
      record {
        loads_are = omega (arith, loads, takes.finds.loads_are, g.counts.loads_are);
        turns_are = omega (arith, turns, takes.finds.turns_are, g.counts.turns_are);
      }

  behind_then : Behind m job thread q.seen (g.points ++ history ∷ []) (g.marks ++ next ∷ [])
  behind_then = subst (λ (seen : List Event). Behind m job thread seen (g.points ++ history ∷ [])
      (g.marks ++ next ∷ []))
      (sym seen_then)
      (one_more m job thread p.seen history g.points g.marks g.behind knows (is_going r before g.stands going))

  named_then : IsThread 64 thread → All IsOfProgram q.seen
  named_then is = subst (All IsOfProgram) (sym seen_then)
      (more_named history p.seen (thread ∷ []) thread adds knows is
      (λ e same. line_named m thread (next_line before.todo before.phase) history e same) (g.named is))

  pub goes_on : Going m job thread first r' events' q
  goes_on = record {
    level = level_then;
    thread_is = takes.takes.same.thread ∙ g.thread_is;
    images_are = takes.takes.same.images ∙ g.images_are;
    fuel_is = takes.takes.same.fuel ∙ g.fuel_is;
    points = g.points ++ history ∷ [];
    marks = g.marks ++ next ∷ [];
    stands = subst (StandsFor r')
        (sym (then_is m job thread p.seen history g.points g.marks g.behind)) stands_then.stands;
    behind = behind_then;
    counts = counts_then;
    named = λ is. named_then is;
  }
