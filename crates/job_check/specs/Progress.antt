-- How far the threads of a job have come: what the code keeps between two turns, and the definition's threads that it
-- stands for.
use Rattle.std.specs.Prelude.{◌≡◌, ◌+◌, ℕ, suc, List, [], ◌∷◌, length, slice_get, Option, Some, None}
use Rattle.std.specs.Option.{option_or}
use Rattle.job_meaning.specs.declared.values.Byte.{Byte}
use Rattle.job_meaning.specs.declared.values.Flag.{Flag}
use Rattle.job_meaning.specs.declared.values.Word.{Word}
use Rattle.job_text.specs.Jobs.{JobParts}
use Rattle.link_needs.specs.Linking.{Linking}
use Rattle.module_table.specs.declared.events.Event.{Event}
use Rattle.module_table.specs.Past.{start}
use Rattle.thread_blocks.specs.Instances.{left_by}
use Rattle.thread_blocks.specs.JobWorlds.{Shared, blocks_in, data_in, shared_order, first_data}
use Rattle.thread_blocks.specs.Lines.{Line, event_by}
use Rattle.thread_blocks.specs.Turns.{Thread}
use Rattle.thread_turns.specs.Orders.{Progress}
use Rattle.whole_meaning.specs.declared.unclean.UncleanStep.{UncleanStep}
use Rattle.whole_meaning.specs.Loads.{loads_of, meaning_of}
use Rattle.whole_meaning.specs.Threads.{Meant, meant_turns}
use Rattle.job_check.specs.declared.thread.Common.{Common}
use Rattle.job_check.specs.Histories.{IsHistory, IsLeftBy, infos_of, last_of}
use Rattle.job_check.specs.Standing.{IsFirstRun, Run, StandsFor, TakesTurn}

-- the state that the history leaves and the data of all instances, and each thread
abbrev pub MeantThreads : Type 0
MeantThreads = Progress Common Run

-- ** what it stands for

-- what is kept of a thread, in a job with these images and this fuel, and the definition's thread that it stands for
pub record IsRunOf (ls : List Linking) (fuel thread : ℕ) (r : Run) (t : Thread Meant Line Event) : Type 0 where
  pub thread_is : r.kept.thread ≡ thread
  pub images_are : r.kept.images ≡ ls
  pub fuel_is : r.fuel ≡ fuel
  pub stands : StandsFor r t

pub record Stands (ls : List Linking) (fuel : ℕ) (w : Shared Word Flag Byte Line) (x : MeantThreads) : Type 0 where
  pub legal : IsHistory ls w.events
  pub leaves : left_by (loads_of ls) w.events ≡ x.shared.table
  pub shared_is : w.shared ≡ x.shared.ranges.items
  pub are_data : data_in x.shared.ranges.items ≡ x.shared.ranges.items
  pub no_blocks : blocks_in x.shared.ranges.items ≡ []
  pub count : length x.runs ≡ length w.threads
  pub each : (k : ℕ) (r : Run) (t : Thread Meant Line Event) → slice_get x.runs k ≡ Some r
      → slice_get w.threads k ≡ Some t → IsRunOf ls fuel (suc k) r t

-- the progress stands for the threads of some job
pub record StandsForSome (x : MeantThreads) : Type 0 where
  pub images : List Linking
  pub fuel : ℕ
  pub world : Shared Word Flag Byte Line
  pub stands : Stands images fuel world x

-- runners stand for the threads of some world, with what they share
abbrev pub Share : Common → List Run → Type 0
Share s runs = StandsForSome (record { shared = s; runs = runs })

-- ** turns

abbrev pub meant_order : List Linking → ℕ → List ℕ → Shared Word Flag Byte Line → Shared Word Flag Byte Line
meant_order ls fuel order w = let m = meaning_of ls in
    shared_order (λ thread. meant_turns m thread fuel) (λ thread. event_by m.loads thread) order w

-- some history of the thread's images leaves the state
abbrev pub CanTurn : Common → Run → Type 0
CanTurn s r = IsLeftBy r.kept.images s.table

-- what a thread's turn leaves
abbrev pub Turned : Common → Run → Common → Run → Type 0
Turned s r s' r' = TakesTurn r s.table s.ranges.items r' s'.table s'.ranges.items

-- ** before the first turn

-- the progress before the first turn of a job over these images
pub record IsFirst (ls : List Linking) (job : JobParts) (x : MeantThreads) : Type 0 where
  pub legal : IsHistory ls []
  pub past_is : x.shared.table ≡ start (infos_of ls) (last_of ls)
  pub shared_is : x.shared.ranges.items ≡ first_data (meaning_of ls).loads
  pub count : length x.runs ≡ length job.lines
  pub each : (k : ℕ) (r : Run) → slice_get x.runs k ≡ Some r → IsFirstRun (k + 1) ls job r

-- ** the verdict so far

abbrev pub first_unclean : List Run → Option UncleanStep
first_unclean [] = None
first_unclean (r ∷ runs) = option_or r.unclean (first_unclean runs)
