-- The steps of a turn after its look: they end the line, or the call waits for its next look.
use Rattle.std.specs.Prelude.{◌≡◌, ◌<◌, ◌-◌, ◌*◌, ◌^◌, ℕ, Bool, List, [], ◌∷◌, ◌++◌, ◌+◌, length, Option, Some, None}
use Rattle.guest_arithmetic.specs.Plain.{plain_operations}
use Rattle.guest_machine.specs.Machine.{Standing}
use Rattle.guest_machine.specs.Run.{run}
use Rattle.guest_operands.specs.declared.state.State.{State}
use Rattle.job_text.specs.declared.thread_lines.ThreadLine.{ThreadLine}
use Rattle.module_data.specs.Pieces.{Piece}
use Rattle.module_table.specs.declared.events.Event.{Event}
use Rattle.transcript_text.specs.declared.outcomes.Line.{Line as Printed}
use Rattle.transcript_text.specs.declared.outcomes.Outcome.{Outcome}
use Rattle.thread_blocks.specs.declared.asked.Asked.{Asked}
use Rattle.thread_blocks.specs.Held.{owned_by}
use Rattle.thread_blocks.specs.Instances.{Loads}
use Rattle.thread_blocks.specs.JobLoads.{job_loads}
use Rattle.thread_blocks.specs.Lines.{Line, begun_by, event_by}
use Rattle.thread_blocks.specs.MachineTurns.{answer_of}
use Rattle.thread_blocks.specs.RunTime.{Runs, resumed_by, shows, thread_steps, thread_turns}
use Rattle.thread_blocks.specs.Turns.{Ending, Mid, Said, Thread, after_look, after_run, over_with, with_event}
use Rattle.thread_blocks.specs.Turns.{with_last}
use Rattle.thread_space.specs.Kept.{HasSeen, Kept, held_at, owned_of}
use Rattle.thread_space.specs.Live.{HasStartups}
use Rattle.thread_turns.specs.declared.parts.Ended.{Ended}
use Rattle.thread_turns.specs.declared.parts.Ended.TheVariants as taken
use Rattle.job_turns.specs.Standing.{Run, Waiting}

abbrev pub Taken : Type 0
Taken = Ended Outcome (Standing ℕ Bool × Asked)

-- a thread whose line is over with this outcome, and that keeps this after these events
pub record IsOver (k : Kept) (outcome : Outcome) (points : List ℕ)
    (now : List Event) (todo : List Line) (said : List Said)
    (seen : List Event) (t : Thread Runs Line Event) : Type 0 where
  pub ending : Ending
  pub held : Runs
  pub is : t ≡ over_with todo said seen points ending held
  pub outcome_is : answer_of ending ≡ Some outcome
  pub owned_is : owned_by held ≡ owned_of k.vector k.pieces
  pub events : held.after.memory.seen ≡ now
  pub stack : held.after.memory.stack ≡ k.stack

-- limit: the most steps of a call's machine
abbrev pub TookAs : ℕ → Kept → Taken → List ℕ → List Event → List Line → List Said → List Event → Thread Runs Line Event
    → Type 0
TookAs limit k (taken.Over outcome) points now todo said seen t = IsOver k outcome points now todo said seen t
TookAs limit k (taken.Waits (machine, asked)) points now todo said seen t = t ≡ record {
  todo = todo;
  phase = Mid (limit - machine.taken) points (held_at now machine.state (Some asked) k);
  said = said;
  seen = seen;
}

-- ---- the parts of a turn, for every thread that keeps the same after these events

abbrev pub loads_in : Kept → Loads ℕ
loads_in k = job_loads k.vector.images

-- what no part of a turn changes; seeing events is a part of its own
pub record KeepsJob (old new : Kept) : Type 0 where
  pub thread : new.vector.thread ≡ old.vector.thread
  pub images : new.vector.images ≡ old.vector.images
  pub startups : HasStartups old.vector → HasStartups new.vector
  pub pieces : length new.pieces ≡ length old.pieces

-- what a line needs to begin: room for its event in the history, and the memory of its job
pub record CanBegin (k : Kept) : Type 0 where
  pub room : k.vector.past.seen + 1 < 2 ^ 62
  pub startups : HasStartups k.vector
  pub pieces : length k.pieces ≡ length k.vector.images.images + 1

-- a call that waits has a step left for its look
abbrev pub HasStepsLeft : ℕ → Taken → Type 0
HasStepsLeft limit (taken.Over outcome) = Unit {0}
HasStepsLeft limit (taken.Waits (machine, asked)) = machine.taken < limit

-- a call runs, from its machine's steps so far, up to its end or its next look
pub record RunsTo (limit : ℕ) (m : Standing ℕ Bool) (k : Kept) (result : Taken) (new : Kept) : Type 0 where
  pub keeps : KeepsJob k new
  pub past : new.vector.past ≡ k.vector.past
  pub steps : HasStepsLeft limit result
  pub runs : (now seen : List Event) (asked : Option Asked) (points : List ℕ) (todo : List Line) (said : List Said)
      → HasSeen k.vector now
      → TookAs limit new result points now todo said seen
      (after_run todo said seen points
      (run (thread_steps (loads_in k) k.vector.thread) (limit - m.taken) (held_at now m.state asked k)))

-- a line begins after its look
pub record BeginsTo (fuel : ℕ) (line : Line) (k : Kept) (result : Taken) (new : Kept) : Type 0 where
  pub keeps : KeepsJob k new
  pub steps : HasStepsLeft (4 * fuel) result
  pub begins : (seen : List Event) (state : State ℕ Bool) (asked : Option Asked) (todo : List Line) (said : List Said)
      → HasSeen k.vector seen
      → let l = loads_in k in
      let now = with_event seen (event_by l k.vector.thread line seen) in
      HasSeen new.vector now
      × TookAs (4 * fuel) new result (length seen ∷ []) now todo said seen
      (after_look (thread_turns l k.vector.thread fuel) (4 * fuel) todo said seen (length seen ∷ [])
      (begun_by plain_operations l (shows l k.vector.thread) k.vector.thread line seen
      (held_at seen state asked k) line.told.action))

-- a call that waited goes on after its look
pub record ResumesTo (fuel : ℕ) (m : Standing ℕ Bool) (asked : Asked) (k : Kept)
    (result : Taken) (new : Kept) : Type 0 where
  pub keeps : KeepsJob k new
  pub steps : HasStepsLeft (4 * fuel) result
  pub resumes : (seen : List Event) (points : List ℕ) (todo : List Line) (said : List Said)
      → HasSeen k.vector seen
      → let l = loads_in k in
      HasSeen new.vector seen
      × TookAs (4 * fuel) new result points seen todo said seen
      (after_look (thread_turns l k.vector.thread fuel) (4 * fuel - m.taken - 1) todo said seen points
      (resumed_by l k.vector.thread seen (held_at seen m.state None k) (Some asked)))

-- ---- the runner after a turn

-- what is kept while the thread does not hold the shared data
abbrev pub emptied : Kept → Kept
emptied k = record k { pieces = [] }

-- the runner after a turn; `points` are the event counts that the line's looks saw
abbrev pub run_after : List ThreadLine → ℕ → ℕ → List Printed → List ℕ → Taken → Kept → Run
run_after lines begun fuel said points (taken.Over outcome) k = record {
  lines = lines;
  begun = begun;
  fuel = fuel;
  kept = k;
  call = None;
  said = said ++ record { points = points; outcome = outcome } ∷ [];
}
run_after lines begun fuel said points (taken.Waits (machine, asked)) k = record {
  lines = lines;
  begun = begun;
  fuel = fuel;
  kept = k;
  call = Some (record { machine = machine; asked = asked; points = points });
  said = said;
}

-- the runner began its next line, and its turn ended with this result
pub record BeginsLine (lines : List ThreadLine) (begun fuel : ℕ) (line : ThreadLine) (k : Kept)
    (said : List Printed) (r : Run)
    (d : List Piece) : Type 0 where
  pub taken : Taken
  pub new : Kept
  pub begins : BeginsTo fuel (record { number = begun + 1; told = line }) k taken new
  pub pieces : d ≡ new.pieces
  pub is : r ≡ run_after lines (begun + 1) fuel said (k.vector.past.seen ∷ []) taken (emptied new)

-- the runner went on with a call, and its turn ended with this result
pub record ResumesLine (lines : List ThreadLine) (begun fuel : ℕ) (k : Kept)
    (said : List Printed) (c : Waiting) (r : Run)
    (d : List Piece) : Type 0 where
  pub taken : Taken
  pub new : Kept
  pub resumes : ResumesTo fuel c.machine c.asked k taken new
  pub pieces : d ≡ new.pieces
  pub is : r ≡ run_after lines begun fuel said (with_last c.points k.vector.past.seen) taken (emptied new)
