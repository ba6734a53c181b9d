-- A thread that races, before its first turn and behind its last.
use Rattle.std.proofs.Common.{◌≡◌, ◌∙◌, ◌+◌, ℕ, false, List, [], ◌∷◌, map, Some, refl, sym, ap, subst, arith}
use Rattle.std.specs.Prelude.{All}
use Rattle.std.proofs.lemmas.List.Elements.{All-nil}
use Rattle.job_text.specs.Jobs.{JobParts}
use Rattle.job_text.specs.Threads.{IsThread, of_thread}
use Rattle.loaded_modules.specs.Images.{JobImages, infos, last_offset}
use Rattle.module_table.specs.declared.events.Event.{Event}
use Rattle.module_table.specs.Past.{IsLegal}
use Rattle.shared_modules.specs.declared.board.Images.{Images}
use Rattle.shared_modules.specs.Passes.{IsSamePass, PassView}
use Rattle.lawful_points.specs.Raced.{IsRacer, raced_looks, raced_of}
use Rattle.lawful_points.specs.Told.{points_of}
use Rattle.lawful_points.proofs.Jobs.{turns_tell}
use Rattle.lawful_points.proofs.Telling.{first_told, last_told, shown_said}
use Rattle.thread_blocks.specs.JobLoads.{job_loads}
use Rattle.thread_blocks.specs.JobWorlds.{thread_ready}
use Rattle.thread_blocks.specs.Lines.{Line, event_by}
use Rattle.thread_blocks.specs.MachineTurns.{shown}
use Rattle.thread_blocks.specs.RunTime.{Runs, thread_turns}
use Rattle.thread_blocks.specs.Turns.{IsFinished, Thread}
use Rattle.thread_space.specs.Kept.{HasSeen}
use Rattle.job_turns.specs.declared.asking.Ask.{Ask}
use Rattle.job_turns.specs.declared.asking.Ask.TheVariants.{Done, Look, Opens, Closes}
use Rattle.job_turns.specs.Alone.{has_data}
use Rattle.job_turns.specs.Progress.{is_done}
use Rattle.job_turns.specs.Standing.{IsFirstRun, IsGoing, Run, ask_of}
use Rattle.racing_thread.specs.Racing.{HasRaced, IsOfProgram, lines_in}
use Rattle.racing_thread.specs.Tallies.{Mark, marks_of, tally_from}
use Rattle.job_turns.proofs.FirstTurn.{seen_none}
use Rattle.racing_thread.proofs.FirstThread.{first_runner, is_finished}
use Rattle.racing_thread.proofs.Going.{Behind, Going}
use Rattle.racing_thread.proofs.Marking.{first_marks, last_marks, shown_marks}
use Rattle.guest_arithmetic.specs.Plain.{plain_operations}

-- ** before the first turn

module _ (m : JobImages) (job : JobParts) (thread : ℕ) (p : PassView) (r : Run) (first : IsFirstRun thread m job r)
    (alone : p.threads ≡ thread ∷ []) (fresh : p.seen ≡ [])
    (images : p.shared.images ≡ record { infos = infos m; last_offset = last_offset m }) (none : has_data m ≡ false)
    (legal : IsLegal p.shared.images.infos p.shared.images.last_offset p.seen) where
  legal_none : IsLegal (infos m) (last_offset m) []
  legal_none = subst (λ (i : Images). IsLegal i.infos i.last_offset []) images
      (subst (λ (seen : List Event). IsLegal p.shared.images.infos p.shared.images.last_offset seen) fresh legal)

  behind_none : Behind m job thread [] [] []
  behind_none = record {
    lawful = record { follows = tt; fronts = tt; own = refl };
    known = refl;
    told = first_told thread (thread_turns (job_loads m) thread job.fuel) (event_by (job_loads m) thread)
        (λ line seen h. turns_tell (job_loads m) job.fuel thread line seen h) (lines_in job thread)
        (thread_ready plain_operations (job_loads m) thread);
    marked = first_marks thread (lines_in job thread) (thread_ready plain_operations (job_loads m) thread);
    reached = refl;
  }

  pub starts : Going m job thread p r [] p
  starts = record {
    level = record {
      events_are = sym fresh;
      has_seen = subst (HasSeen r.kept.vector) (sym fresh) (seen_none m legal_none thread r.kept first.kept);
      threads_are = alone ∙ ap (λ (n : ℕ). n ∷ []) (sym first.kept.thread_is);
      images_are = images
          ∙ ap (λ (i : JobImages). record { infos = infos i; last_offset = last_offset i }) (sym first.kept.images);
      no_data = ap has_data first.kept.images ∙ none;
    };
    thread_is = first.kept.thread_is;
    images_are = first.kept.images;
    fuel_is = first.fuel;
    points = [];
    marks = [];
    stands = first_runner m job legal_none thread r first;
    behind = subst (λ (seen : List Event). Behind m job thread seen [] []) (sym fresh) behind_none;
    counts = record { loads_are = omega arith; turns_are = omega arith };
    named = λ is. subst (All IsOfProgram) (sym fresh) (All-nil IsOfProgram);
  }

-- ** behind the last

module _ (m : JobImages) (job : JobParts) (thread : ℕ) (first : PassView) (r : Run) (events : List Event) (p : PassView)
    (g : Going m job thread first r events p) (done : ask_of r ≡ Done) (is : IsThread 64 thread) where
  abbrev last : Thread Runs Line Event
  last = raced_of (job_loads m) job.fuel thread (of_thread job.lines thread) g.points

  over : IsFinished last.todo last.phase
  over = is_finished r last g.stands done

  shows : map Some r.said ≡ map shown last.said
  shows = sym g.stands.said

  racer : IsRacer (job_loads m) job.fuel thread (of_thread job.lines thread) p.seen r.said
  racer = record {
    points = g.points;
    lawful = g.behind.lawful;
    over = over;
    lines = shows;
    told = shown_said thread (lines_in job thread) r.said last.said shows
        ∙ last_told thread (thread_turns (job_loads m) thread job.fuel) (event_by (job_loads m) thread)
        (λ line seen h. turns_tell (job_loads m) job.fuel thread line seen h) (lines_in job thread)
        last.todo last.phase last.said
        (points_of (raced_looks (job_loads m) job.fuel thread
        (of_thread job.lines thread) g.points)) over g.behind.told;
  }

  marks_are : g.marks ≡ marks_of thread (lines_in job thread) r.said
  marks_are = sym (shown_marks thread (lines_in job thread) r.said last.said shows
      ∙ last_marks thread (lines_in job thread) last.todo last.phase last.said g.marks over g.behind.marked)

  pub ends : HasRaced m job thread first p r.said events
  ends = record {
    racer = racer;
    events_are = g.level.events_are;
    named = g.named is;
    loads_are = g.counts.loads_are ∙ ap (λ (marks : List Mark). first.loads + (tally_from 0 marks).loads) marks_are;
    turns_are = g.counts.turns_are ∙ ap (λ (marks : List Mark). first.turns + (tally_from 0 marks).turns) marks_are;
  }

-- ** the loop

pub going_is : (ask : Ask) → is_done ask ≡ false → IsGoing ask
going_is Done done = cc
going_is (Look line) done = tt
going_is (Opens line image) done = tt
going_is (Closes line image) done = tt

pub same_along : (p q s : PassView) → IsSamePass p q → IsSamePass q s → IsSamePass p s
same_along p q s first second =
    record { shared = second.shared ∙ first.shared; threads = second.threads ∙ first.threads }
