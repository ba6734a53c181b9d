-- The looks that a thread takes: in an order of turns, and alone at given points.
use Rattle.std.specs.Prelude.{◌==◌, ◌&&◌, ◌*◌, ℕ, Bool, true, false, not, List, [], ◌∷◌, ◌++◌, Option, Some, None}
use Rattle.job_text.specs.declared.thread_lines.ThreadLine.{ThreadLine}
use Rattle.module_table.specs.declared.events.Event.{Event}
use Rattle.lawful_points.specs.Points.{Look}
use Rattle.thread_blocks.specs.Held.{Held}
use Rattle.thread_blocks.specs.Instances.{Loads}
use Rattle.thread_blocks.specs.JobWorlds.{Shared, job_start, shared_turn}
use Rattle.thread_blocks.specs.Lines.{event_by}
use Rattle.thread_blocks.specs.RunTime.{thread_turns}
use Rattle.thread_blocks.specs.Turns.{Phase, Idle, Mid, Thread, Turns, at_number, event_of, turn, whole_order}
use Rattle.guest_arithmetic.specs.Plain.{plain_operations}

-- whether a thread has nothing left to do
abbrev pub is_over : {S L : Type 0} → List L → Phase S → Bool
is_over [] (Idle s) = true
is_over (line ∷ todo) (Idle s) = false
is_over todo (Mid left points s) = false

-- a look at these events
abbrev pub look_at : {S L : Type 0} → (L → List Event → Option Event) → Thread S L Event → List Event → Look
look_at event t seen = record { seen = seen; added = event_of event t seen }

-- ** alone

module _ {S L : Type 0} (x : Turns S L Event) (event : L → List Event → Option Event) where
  -- the looks of a thread whose turns see these lists of events, one after another
  abbrev pub looks_of : Thread S L Event → List (List Event) → List Look
  looks_of t [] = []
  looks_of t (seen ∷ more) = look_at event t seen ∷ looks_of (turn x t seen) more

-- ** in an order

abbrev pub look_if : Bool → Look → List Look
look_if true look = look ∷ []
look_if false look = []

module _ {W F B L : Type 0} (x : ℕ → Turns (Held W F B) L Event) (event : ℕ → L → List Event → Option Event) where
  -- the look of thread i in a turn of thread j: one if j is i and has something left to do, otherwise none
  abbrev pub look_in : ℕ → ℕ → List Event → Option (Thread (Held W F B) L Event) → List Look
  look_in i j events None = []
  look_in i j events (Some t) = look_if ((j == i) && not (is_over t.todo t.phase)) (look_at (event j) t events)

  -- the looks of thread i in an order of turns
  abbrev pub looks_in : ℕ → List ℕ → Shared W F B L → List Look
  looks_in i [] w = []
  looks_in i (j ∷ order) w = look_in i j w.events (at_number w.threads j)
      ++ looks_in i order (shared_turn x event w j (at_number w.threads j))

-- the looks of a thread in all turns of a job
unfoldable pub job_looks : Loads ℕ → ℕ → List (List ThreadLine) → List ℕ → ℕ → List Look
job_looks l fuel lines order thread =
    looks_in (λ thread. thread_turns l thread fuel) (λ thread. event_by l thread) thread
    (whole_order (4 * fuel) lines order) (job_start plain_operations l lines)
