-- What `race` prints for a job whose images all link.
use Rattle.std.specs.Prelude.{◌≡◌, ℕ, List, Some}
use Rattle.job_text.specs.declared.thread_lines.ThreadLine.{ThreadLine}
use Rattle.job_text.specs.Jobs.{JobParts}
use Rattle.lawful_points.specs.Raced.{IsRaced}
use Rattle.link_needs.specs.Linking.{Linking}
use Rattle.loaded_modules.specs.Images.{JobImages}
use Rattle.module_table.specs.Past.{IsLegal}
use Rattle.thread_blocks.specs.JobLoads.{job_loads}
use Rattle.thread_blocks.specs.Turns.{at_number}
use Rattle.transcript_text.specs.declared.outcomes.Line.{Line as ShownLine}
use Rattle.transcript_text.specs.Texts.{Shown}
use Rattle.commands.specs.Runs.{ImagesHoldTheTable, IsMeant, meant_lines, modules_of}

-- ** what ran

-- the threads of a job ran over these images
pub record AreRaced (m : JobImages) (job : JobParts) (transcript : Shown) : Type 0 where
  -- there was one history, which accepted each open and each close
  pub legal : IsLegal (job_loads m).infos (job_loads m).last_offset transcript.events
  -- and each thread took turns at lawful points of it, exactly those that its lines print
  pub raced : IsRaced (job_loads m) job.fuel job.lines transcript

-- the job's threads ran at once
pub record HasRace (job : JobParts) (ls : List Linking) (transcript : Shown) : Type 0 where
  -- for every job, each thread's lines are what the machine gives over the written images
  pub ran : AreRaced (modules_of job ls) job transcript
  -- and the lines of each thread that is clean by itself are what the objects mean at the points that they print
  pub thread_is : (thread : ℕ) (own : List ThreadLine) (printed : List ShownLine)
      → at_number job.lines thread ≡ Some own
      → at_number transcript.threads thread ≡ Some printed
      → IsMeant printed (meant_lines job ls transcript thread own printed)
  -- sequences were rewritten by the table, in each image that was loaded
  pub images_hold : ImagesHoldTheTable ls
