-- The threads of a job between two turns: what the code keeps, and the threads of the definition that it stands for.
use Rattle.std.specs.Prelude.{◌≡◌, ◌+◌, ◌++◌, ℕ, suc, Bool, true, false, List, [], length, slice_get, Some}
use Rattle.job_text.specs.Jobs.{JobParts}
use Rattle.loaded_modules.specs.Images.{JobImages, infos, last_offset}
use Rattle.module_data.specs.Pieces.{first_data}
use Rattle.module_table.specs.declared.events.Event.{Event}
use Rattle.module_table.specs.Past.{IsLegal}
use Rattle.module_table.specs.Past.{past}
use Rattle.thread_blocks.specs.JobLoads.{job_loads}
use Rattle.thread_blocks.specs.JobWorlds.{Shared, shared_order}
use Rattle.thread_blocks.specs.Lines.{Line, event_by}
use Rattle.thread_blocks.specs.RunTime.{Runs, thread_turns}
use Rattle.thread_blocks.specs.Turns.{Thread}
use Rattle.thread_turns.specs.Orders.{Progress}
use Rattle.job_turns.specs.declared.asking.Ask.{Ask}
use Rattle.job_turns.specs.declared.asking.Ask.TheVariants.{Done, Look, Opens, Closes}
use Rattle.job_turns.specs.declared.turning.Common.{Common}
use Rattle.thread_space.specs.Kept.{HasSeen, shared_of}
use Rattle.job_turns.specs.Standing.{IsFirstRun, Run, StandsFor, ask_of}

-- the history and the data of all images, and a runner for each thread
abbrev pub Runners : Type 0
Runners = Progress Common Run

-- ---- which threads are over

abbrev pub is_done : Ask → Bool
is_done Done = true
is_done (Look line) = false
is_done (Opens line image) = false
is_done (Closes line image) = false

-- a runner has nothing left to do
abbrev pub is_over : Run → Bool
is_over r = is_done (ask_of r)

-- ---- the threads that it stands for

-- for a job with these images and this fuel: a runner and the thread that it stands for; it has seen a front of the
-- events
pub record IsRunner (m : JobImages) (fuel thread : ℕ) (events : List Event)
    (r : Run) (t : Thread Runs Line Event) : Type 0 where
  pub thread_is : r.kept.vector.thread ≡ thread
  pub images_are : r.kept.vector.images ≡ m
  pub fuel_is : r.fuel ≡ fuel
  pub stands : StandsFor r t
  pub front : List Event
  pub rest : List Event
  pub events_are : events ≡ front ++ rest
  pub has_seen : HasSeen r.kept.vector front

pub record Stands (m : JobImages) (fuel : ℕ) (w : Shared ℕ Bool ℕ Line) (x : Runners) : Type 0 where
  pub infos_are : x.shared.registry.infos ≡ infos m
  pub last_is : x.shared.registry.last_offset ≡ last_offset m
  pub events_are : x.shared.registry.events ≡ w.events
  pub legal : IsLegal (infos m) (last_offset m) w.events
  pub pieces_are : length x.shared.pieces ≡ length m.images + 1
  pub shared_is : w.shared ≡ shared_of m (past (infos m) (last_offset m) w.events) x.shared.pieces
  pub count : length x.runs ≡ length w.threads
  pub each : (k : ℕ) (r : Run) (t : Thread Runs Line Event)
      → slice_get x.runs k ≡ Some r → slice_get w.threads k ≡ Some t
      → IsRunner m fuel (suc k) w.events r t

-- the code stands for threads of some job
pub record StandsForSome (x : Runners) : Type 0 where
  pub images : JobImages
  pub fuel : ℕ
  pub world : Shared ℕ Bool ℕ Line
  pub stands : Stands images fuel world x

-- runners stand for the threads of some world, with what they share
abbrev pub Share : Common → List Run → Type 0
Share s runs = StandsForSome (record { shared = s; runs = runs })

-- ---- turns

abbrev pub job_order : JobImages → ℕ → List ℕ → Shared ℕ Bool ℕ Line → Shared ℕ Bool ℕ Line
job_order m fuel order w =
    shared_order (λ thread. thread_turns (job_loads m) thread fuel) (λ thread. event_by (job_loads m) thread) order w

-- ---- before the first turn

-- the code stands for the threads before the first turn of a job over these images
pub record IsFirst (m : JobImages) (job : JobParts) (x : Runners) : Type 0 where
  pub infos_are : x.shared.registry.infos ≡ infos m
  pub last_is : x.shared.registry.last_offset ≡ last_offset m
  pub events_are : x.shared.registry.events ≡ []
  pub legal : IsLegal (infos m) (last_offset m) []
  pub pieces_are : x.shared.pieces ≡ first_data m
  pub count : length x.runs ≡ length job.lines
  pub each : (k : ℕ) (r : Run) → slice_get x.runs k ≡ Some r → IsFirstRun (k + 1) m job r
