-- What `run` prints for a job whose images all link.
use Rattle.std.specs.Prelude.{◌≡◌, ℕ, Bool, true, false, List, [], ◌∷◌, map, Some, None}
use Rattle.std.specs.List.{All}
use Rattle.image_file.specs.Spelled.{Spelled, spelled}
use Rattle.image_writer.specs.Written.{written}
use Rattle.job_meaning.specs.declared.values.Byte.{Byte}
use Rattle.job_meaning.specs.declared.values.Flag.{Flag}
use Rattle.job_meaning.specs.declared.values.Word.{Word}
use Rattle.job_text.specs.declared.thread_lines.ThreadLine.{ThreadLine}
use Rattle.job_text.specs.Jobs.{JobParts}
use Rattle.lawful_points.specs.Printed.{printed_points}
use Rattle.link_core.specs.Images.{LinkedImage, linked_of}
use Rattle.link_needs.specs.Linking.{Linking}
use Rattle.linked_jobs.specs.Threads.{thread_meaning}
use Rattle.loaded_modules.specs.Loader.{of_job}
use Rattle.loaded_modules.specs.Images.{JobImages}
use Rattle.standing_sequences.specs.Images.{HoldsTheTable}
use Rattle.thread_blocks.specs.JobLoads.{job_loads}
use Rattle.thread_blocks.specs.JobWorlds.{Shared, Tells, job_world}
use Rattle.thread_blocks.specs.Lines.{Line}
use Rattle.thread_blocks.specs.MachineTurns.{shown}
use Rattle.thread_blocks.specs.Turns.{Said, at_number}
use Rattle.transcript_text.specs.declared.outcomes.Line.{Line as ShownLine}
use Rattle.transcript_text.specs.Texts.{Shown}
use Rattle.whole_meaning.specs.Jobs.{meant_world, verdict_of}
use Rattle.whole_meaning.specs.Loads.{meaning_of}
use Rattle.link_needs.specs.Linking.{has_writable_data}
use Rattle.commands.specs.Checks.{verdict}

-- ** the images

-- a linked image, read back from its written bytes
abbrev pub read_back : LinkedImage → Spelled
read_back linked = spelled (written linked.image)

-- the image of a link, as it is loaded
abbrev pub loaded_image : Linking → Spelled
loaded_image l = read_back (linked_of l)

-- the images of a job, as they are loaded
unfoldable pub modules_of : JobParts → List Linking → JobImages
modules_of job ls = of_job job (map loaded_image ls)

-- each of them holds a sequence's rewritten form exactly where its bytes, its relocations, its symbol's binding, the
-- image's kind and the setting match the table; every other byte of its code is its object's own, fields aside
abbrev pub ImagesHoldTheTable : List Linking → Type 0
ImagesHoldTheTable ls = All (λ (l : Linking). HoldsTheTable l (loaded_image l)) ls

-- the images of a job, read back: those that are written and read are the linked ones
pub record AreBack (job : JobParts) (all : List LinkedImage) (images : List Spelled) : Type 0 where
  pub read : images ≡ map read_back all
  pub again : images ≡ map (λ linked. linked.image) all

-- and the modules made from them
pub record AreModulesBack (job : JobParts) (all : List LinkedImage) (modules : JobImages) : Type 0 where
  pub images : List Spelled
  pub back : AreBack job all images
  pub modules_are : modules ≡ of_job job images

-- ** what is printed

-- all turns of the job's threads: the machine with its run time, over the bytes of these images
abbrev pub world_of : JobParts → JobImages → Shared ℕ Bool ℕ Line
world_of job modules = job_world (job_loads modules) job.fuel job.lines job.order

-- ** what is meant

-- the links as `check` sees them, with sequences rewritten; the meaning does not depend on that
abbrev pub as_checked : List Linking → List Linking
as_checked ls = map (λ (l : Linking). record l { relax = true }) ls

-- all turns of the job's threads, in the same order, as its objects mean them: no image, no table and no
-- rewritten byte occurs in it
abbrev pub meaning_of_job : JobParts → List Linking → Shared Word Flag Byte Line
meaning_of_job job ls = meant_world (meaning_of ls) job.fuel job.lines job.order

-- the meaning of one thread's lines, whatever the others do; its looks see as many events of the transcript's history
-- as the thread's lines in the transcript say
abbrev pub meant_lines : JobParts → List Linking → Shown → ℕ → List ThreadLine → List ShownLine → List Said
meant_lines job ls transcript thread own printed =
    thread_meaning (meaning_of ls) job.fuel thread own transcript.events (printed_points printed)

-- the thread's lines in the transcript are the meant ones, if no step of these is unclean
abbrev pub IsMeant : List ShownLine → List Said → Type 0
IsMeant printed said = verdict_of (said ∷ []) ≡ None → map Some printed ≡ map shown said

-- ** what ran

-- the job ran
pub record HasRun (job : JobParts) (ls : List Linking) (transcript : Shown) : Type 0 where
  -- for every job, the transcript is what the machine gives over the written images
  pub printed_is : Tells (world_of job (modules_of job ls)) transcript
  -- and if the job is clean, for which `check` prints `clean`, the transcript is the job's meaning
  pub meant_is : verdict job (as_checked ls) ≡ None → Tells (meaning_of_job job ls) transcript
  -- and if no image has data that threads write, the same holds of each thread that is clean by itself
  pub thread_is : All (λ (l : Linking). has_writable_data l ≡ false) ls
      → (thread : ℕ) (own : List ThreadLine) (printed : List ShownLine) → at_number job.lines thread ≡ Some own
      → at_number transcript.threads thread ≡ Some printed
      → IsMeant printed (meant_lines job ls transcript thread own printed)
  -- sequences were rewritten by the table, in each image that was loaded
  pub images_hold : ImagesHoldTheTable ls
