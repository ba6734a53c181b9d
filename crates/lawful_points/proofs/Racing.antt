-- Where no image has data that threads write, what a job's transcript says is raced.
use Rattle.std.proofs.Common.{◌≡◌, ◌∙◌, ℕ, zero, suc, Bool, List, [], Option, Some, sym, ap, subst}
use Rattle.std.specs.Prelude.{slice_get}
use Rattle.std.proofs.lemmas.Option.{same_Some}
use Rattle.job_text.specs.declared.thread_lines.ThreadLine.{ThreadLine}
use Rattle.module_table.specs.declared.events.Event.{Event}
use Rattle.transcript_text.specs.declared.outcomes.Line.{Line as ShownLine}
use Rattle.transcript_text.specs.Texts.{Shown}
use Rattle.thread_blocks.specs.Instances.{Loads}
use Rattle.thread_blocks.specs.JobStatements.{HasNoData}
use Rattle.thread_blocks.specs.JobWorlds.{Shared, Tells, job_world, numbered_lines, thread_ready}
use Rattle.thread_blocks.specs.Lines.{Line, event_by}
use Rattle.thread_blocks.specs.RunTime.{Runs, thread_turns}
use Rattle.thread_blocks.specs.Turns.{Thread, Turns, IsFinished, at_number, turns}
use Rattle.thread_blocks.specs.Turns.{AllFronts}
use Rattle.thread_blocks.proofs.Endings.{threads_ended}
use Rattle.thread_blocks.proofs.Own.{own_turns}
use Rattle.lawful_points.specs.Laws.{RacedPointsAreLawful, RunsAreRaced}
use Rattle.lawful_points.specs.Orders.{job_looks, looks_of}
use Rattle.lawful_points.specs.Points.{AreLawful, Look, seen_by}
use Rattle.lawful_points.specs.Raced.{IsRacer, first_of, raced_looks}
use Rattle.lawful_points.specs.Told.{points_of}
use Rattle.lawful_points.specs.ToldLaws.{AreLawfulPoints}
use Rattle.lawful_points.proofs.Alone.{acting, acting_fronts, acting_turns, alone_told, seen_alone}
use Rattle.lawful_points.proofs.Fronts.{same_looks}
use Rattle.lawful_points.proofs.Jobs.{looks_lawful, said_lines, shown_at, turns_tell}
use Rattle.lawful_points.proofs.Naming.{told_count, told_named}
use Rattle.lawful_points.proofs.Numbers.{numbers_lawful}
use Rattle.lawful_points.proofs.Telling.{first_told, last_told, said_by, shown_said}
use Rattle.guest_arithmetic.specs.Plain.{plain_operations}

module _ (l : Loads ℕ) (fuel : ℕ) where
  abbrev World : Type 0
  World = Shared ℕ Bool ℕ Line

  abbrev Ours : Type 0
  Ours = Thread Runs Line Event

  abbrev each : ℕ → Turns Runs Line Event
  each thread = thread_turns l thread fuel

  abbrev event : ℕ → Line → List Event → Option Event
  event thread = event_by l thread

  -- ** a thread

  module _ (lines : List (List ThreadLine)) (order : List ℕ) (none : HasNoData l) (i : ℕ) (own : List ThreadLine)
      (at : at_number lines (suc i) ≡ Some own) where
    abbrev world : World
    world = job_world l fuel lines order

    abbrev first : Ours
    first = first_of l (suc i) own

    -- the turns that it takes alone
    abbrev points : List (List Event)
    points = acting (each (suc i)) first (own_turns l fuel lines order (suc i) own none at).0

    abbrev last : Ours
    last = turns (each (suc i)) first points

    abbrev looks : List Look
    looks = looks_of (each (suc i)) (event (suc i)) first points

    there : slice_get world.threads i ≡ Some last
    there =
        let alone = own_turns l fuel lines order (suc i) own none at in
        alone.3 ∙ ap (λ (t : Ours). Some t) (sym (acting_turns (each (suc i)) alone.0 first))

    fronts : AllFronts (seen_by looks) world.events
    fronts =
        let alone = own_turns l fuel lines order (suc i) own none at in
        subst (λ (ps : List (List Event)). AllFronts ps world.events) (sym (seen_alone (each (suc i))
        (event (suc i)) points first))
        (acting_fronts (each (suc i)) alone.0 first world.events alone.2)

    over : IsFinished last.todo last.phase
    over =
        let ended = threads_ended l fuel lines order (suc i) own at in
        let same : ended.0 ≡ last = same_Some ended.0 last (sym ended.1.0 ∙ there) in
        subst (λ (t : Ours). IsFinished t.todo t.phase) same ended.1.1

    told : said_by (suc i) (numbered_lines 1 own) last.said ≡ points_of looks
    told =
        let tells = λ (line : Line) (seen : List Event) (h : Runs). turns_tell l fuel (suc i) line seen h in
        last_told (suc i) (each (suc i)) (event (suc i)) tells (numbered_lines 1 own) last.todo last.phase last.said
        (points_of looks) over
        (alone_told (suc i) (each (suc i)) (event (suc i)) tells (numbered_lines 1 own)
        (own_turns l fuel lines order (suc i) own none at).0 first []
        (first_told (suc i) (each (suc i)) (event (suc i)) tells (numbered_lines 1 own)
        (thread_ready plain_operations l (suc i))))

    lawful : AreLawful (suc i) world.events looks
    lawful =
        let among = job_looks l fuel lines order (suc i) in
        let is = looks_lawful l fuel lines order (suc i) in
        let both : points_of looks ≡ points_of among = sym told ∙ said_lines l fuel lines order i own last at there in
        subst (AreLawful (suc i) world.events) (sym (same_looks world.events looks among fronts is.fronts both)) is

    racer : (transcript : Shown) (said : List ShownLine) → Tells world transcript
        → slice_get transcript.threads i ≡ Some said
        → IsRacer l fuel (suc i) own transcript.events said
    racer transcript said tells found =
        let shows = shown_at transcript world i said last tells found there in record {
          points = points;
          lawful = subst (λ (h : List Event). AreLawful (suc i) h looks) (sym tells.events) lawful;
          over = over;
          lines = shows;
          told = shown_said (suc i) (numbered_lines 1 own) said last.said shows ∙ told;
        }

each_raced : (l : Loads ℕ) (fuel : ℕ) (lines : List (List ThreadLine)) (order : List ℕ) (transcript : Shown)
    → HasNoData l
    → Tells (job_world l fuel lines order) transcript
    → (thread : ℕ) (own : List ThreadLine) (said : List ShownLine) → at_number lines thread ≡ Some own
    → at_number transcript.threads thread ≡ Some said → IsRacer l fuel thread own transcript.events said
each_raced l fuel lines order transcript none tells zero own said at found = cc
each_raced l fuel lines order transcript none tells (suc i) own said at found =
    racer l fuel lines order none i own at transcript said tells found

pub runs_raced : RunsAreRaced
runs_raced l fuel lines order transcript none tells = record {
  count = told_count l fuel lines order transcript tells;
  each = λ thread own said at found. each_raced l fuel lines order transcript none tells thread own said at found;
  named = told_named l fuel lines order transcript tells;
}

pub raced_points : RacedPointsAreLawful
raced_points l fuel lines transcript raced thread own said at found =
    let racer = raced.each thread own said at found in
    subst (AreLawfulPoints thread transcript.events) (sym racer.told)
    (numbers_lawful thread transcript.events (raced_looks l fuel thread own racer.points) racer.lawful)
