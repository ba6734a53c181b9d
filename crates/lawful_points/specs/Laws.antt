-- The points of every job's threads are lawful.
use Rattle.std.specs.Prelude.{◌≡◌, ℕ, List, map, Option, Some, take}
use Rattle.job_text.specs.declared.thread_lines.ThreadLine.{ThreadLine}
use Rattle.module_table.specs.declared.events.Event.{Event}
use Rattle.transcript_text.specs.declared.outcomes.Line.{Line as ShownLine}
use Rattle.transcript_text.specs.Texts.{Shown}
use Rattle.lawful_points.specs.Made.{EventsAreMade}
use Rattle.lawful_points.specs.Orders.{job_looks}
use Rattle.lawful_points.specs.Points.{AreLawful}
use Rattle.lawful_points.specs.Raced.{IsRaced, IsRacer, first_of}
use Rattle.lawful_points.specs.Told.{points_of, told_by}
use Rattle.lawful_points.specs.ToldLaws.{AreLawfulPoints}
use Rattle.lawful_points.specs.Printed.{printed_points}
use Rattle.order_laws.specs.Alike.{AtHistory}
use Rattle.thread_blocks.specs.Instances.{Loads}
use Rattle.thread_blocks.specs.JobStatements.{HasNoData}
use Rattle.thread_blocks.specs.JobWorlds.{Tells, job_world, numbered_lines}
use Rattle.thread_blocks.specs.Lines.{event_by}
use Rattle.thread_blocks.specs.RunTime.{thread_turns}
use Rattle.thread_blocks.specs.Turns.{Thread, Turns, at_number}
use Rattle.thread_blocks.specs.Turns.{IsFront}

-- in any order of turns the looks of each thread are lawful, whatever is loaded
abbrev pub LooksAreLawful : Type 0
LooksAreLawful = (l : Loads ℕ) (fuel : ℕ) (lines : List (List ThreadLine)) (order : List ℕ) (thread : ℕ)
    → AreLawful thread (job_world l fuel lines order).events (job_looks l fuel lines order thread)

-- the looks of a thread are those that its lines tell
abbrev pub LinesTellLooks : Type 0
LinesTellLooks = (l : Loads ℕ) (fuel : ℕ) (lines : List (List ThreadLine)) (order : List ℕ) (transcript : Shown)
    → Tells (job_world l fuel lines order) transcript
    → (thread : ℕ) (own : List ThreadLine) (said : List ShownLine) → at_number lines thread ≡ Some own
    → at_number transcript.threads thread ≡ Some said
    → told_by thread (numbered_lines 1 own) said ≡ points_of (job_looks l fuel lines order thread)

-- the printed points are lawful
abbrev pub PointsAreLawful : Type 0
PointsAreLawful = (l : Loads ℕ) (fuel : ℕ) (lines : List (List ThreadLine)) (order : List ℕ) (transcript : Shown)
    → Tells (job_world l fuel lines order) transcript
    → (thread : ℕ) (own : List ThreadLine) (said : List ShownLine) → at_number lines thread ≡ Some own
    → at_number transcript.threads thread ≡ Some said
    → AreLawfulPoints thread transcript.events (told_by thread (numbered_lines 1 own) said)

-- if no image has data that threads write, the transcript is raced
abbrev pub RunsAreRaced : Type 0
RunsAreRaced = (l : Loads ℕ) (fuel : ℕ) (lines : List (List ThreadLine)) (order : List ℕ) (transcript : Shown)
    → HasNoData l → Tells (job_world l fuel lines order) transcript → IsRaced l fuel lines transcript

-- each raced transcript has lawful points, in any order of turns or in none
abbrev pub RacedPointsAreLawful : Type 0
RacedPointsAreLawful = (l : Loads ℕ) (fuel : ℕ) (lines : List (List ThreadLine)) (transcript : Shown)
    → IsRaced l fuel lines transcript
    → (thread : ℕ) (own : List ThreadLine) (said : List ShownLine) → at_number lines thread ≡ Some own
    → at_number transcript.threads thread ≡ Some said
    → AreLawfulPoints thread transcript.events (told_by thread (numbered_lines 1 own) said)

-- in any order of turns the events are those that lines made, whatever is loaded
abbrev pub RunsMakeTheirEvents : Type 0
RunsMakeTheirEvents = (l : Loads ℕ) (fuel : ℕ) (lines : List (List ThreadLine)) (order : List ℕ) (transcript : Shown)
    → Tells (job_world l fuel lines order) transcript → EventsAreMade lines transcript

-- so are those of each raced transcript
abbrev pub RacesMakeTheirEvents : Type 0
RacesMakeTheirEvents = (l : Loads ℕ) (fuel : ℕ) (lines : List (List ThreadLine)) (transcript : Shown)
    → IsRaced l fuel lines transcript → EventsAreMade lines transcript

-- what each turn of a thread sees is a front of a history, also with the thread's own event added
abbrev pub AtFronts : {S L : Type 0} → Turns S L Event → (L → List Event → Option Event) → List Event
    → Thread S L Event → List (List Event) → Type 0
AtFronts x event history = AtHistory x event (λ (seen : List Event). IsFront seen history)

-- this holds of each thread that raced
abbrev pub RacersAreInHistory : Type 0
RacersAreInHistory = (l : Loads ℕ) (fuel thread : ℕ) (own : List ThreadLine) (history : List Event)
    (said : List ShownLine) → (racer : IsRacer l fuel thread own history said)
    → AtFronts (thread_turns l thread fuel) (event_by l thread) history (first_of l thread own) racer.points

-- what its turns saw can be rebuilt from the history and the numbers that its lines print
abbrev pub RacersPrintTheirPoints : Type 0
RacersPrintTheirPoints = (l : Loads ℕ) (fuel thread : ℕ) (own : List ThreadLine) (history : List Event)
    (said : List ShownLine) → (racer : IsRacer l fuel thread own history said)
    → map (λ (number : ℕ). take number history) (printed_points said) ≡ racer.points
