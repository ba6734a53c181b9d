-- A turn that holds no data: in a job where no image has any.
use Rattle.std.specs.Prelude.{◌≡◌, Bool, false, List, Option, Some, None, is_some}
use Rattle.std.specs.List.{list_any}
use Rattle.image_file.specs.Spelled.{Spelled}
use Rattle.loaded_modules.specs.Images.{JobImages, infos, last_offset}
use Rattle.module_data.specs.Parts.{data_part}
use Rattle.module_table.specs.declared.events.Event.{Event}
use Rattle.module_table.specs.Past.{after, past}
use Rattle.thread_blocks.specs.JobLoads.{job_loads}
use Rattle.thread_blocks.specs.Lines.{Line, event_by}
use Rattle.thread_blocks.specs.RunTime.{Runs, thread_turns}
use Rattle.thread_blocks.specs.Turns.{Thread, event_of, turn, with_event}
use Rattle.thread_space.specs.Kept.{HasSeen}
use Rattle.job_turns.specs.Standing.{IsSameRunner, Run, StandsFor}

-- whether the image, if there is one, has data that programs write
abbrev pub has_data_in : Option Spelled → Bool
has_data_in None = false
has_data_in (Some image) = is_some (data_part image)

-- some image of the job has such data
unfoldable pub has_data : JobImages → Bool
has_data m = list_any (λ image. has_data_in (Some image)) m.images

-- a thread after a turn of its own: the runner stands for it, and has seen the history with the thread's own event
pub record StandsAlone (r : Run) (seen : List Event) (t : Thread Runs Line Event) : Type 0 where
  pub stands : StandsFor r t
  pub has_seen : HasSeen r.kept.vector seen

-- for each thread that the old runner stands for: after the turn that it takes alone, at a history that these events
-- continue, the new runner stands for it
pub record TakesOwnTurn (old : Run) (events : List Event) (new : Run) : Type 0 where
  pub same : IsSameRunner old new
  pub turns : (t : Thread Runs Line Event) (seen : List Event) → StandsFor old t
      → past (infos old.kept.vector.images) (last_offset old.kept.vector.images) seen
      ≡ after old.kept.vector.past events
      → let l = job_loads old.kept.vector.images in
      let thread = old.kept.vector.thread in
      StandsAlone new (with_event seen (event_of (event_by l thread) t seen))
      (turn (thread_turns l thread old.fuel) t seen)
