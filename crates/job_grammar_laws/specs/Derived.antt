-- Which job a text derives. It watches `job_of` (job_text: `Jobs`, with `Drafts`): how images are put in image order,
-- and how all that is named gets the number of its image.
use Rattle.std.specs.Prelude.{◌≡◌, ◌≤◌, ◌==◌, ℕ, List, [], ◌++◌, filter, length, Some, Ok, unwrap_or}
use Rattle.std.specs.List.{AllZip}
use Rattle.job_text.specs.Jobs.{JobParts, job_of}
use Rattle.job_text.specs.Numbering.{at_number}
use Rattle.job_text.specs.declared.images.Image.{Image}
use Rattle.job_text.specs.declared.thread_lines.ThreadLine.{ThreadLine}
use Rattle.job_grammar_laws.specs.Grammar.{Asked, Told, Text, nothing_told, names, of_group, thread_count}

-- the image of this number has this name
pub record HasName (images : List Image) (number : ℕ) (name : List ℕ) : Type 0 where
  pub image : Image
  pub stands : at_number images number ≡ Some image
  pub named : image.name ≡ name

-- the lines of a thread, in the order of the text
abbrev pub of_thread : ℕ → List Asked → List Asked
of_thread thread asked = filter (λ line. line.thread == thread) asked

-- a line of the job is one that the text asks
pub record IsAsked (images : List Image) (line : ThreadLine) (asked : Asked) : Type 0 where
  pub image : HasName images line.image asked.image
  pub action : line.action ≡ asked.action

-- the job that lines tell
pub record IsJobOf (told : Told) (job : JobParts) : Type 0 where
  pub images : job.images ≡ of_group 0 told.images ++ of_group 1 told.images ++ of_group 2 told.images
  pub program : 1 ≤ length (of_group 0 told.images)
  pub mentions : AllZip (HasName job.images) job.mentions (names told.images)
  pub fuel : job.fuel ≡ unwrap_or told.fuel 100000
  pub order : job.order ≡ unwrap_or told.order []
  pub threads : length job.lines ≡ thread_count told
  pub lines : (thread : ℕ) (lines : List ThreadLine) → at_number job.lines thread ≡ Some lines
      → AllZip (IsAsked job.images) lines (of_thread thread told.asked)

-- the text derives the job
pub record Derives (text : List ℕ) (job : JobParts) : Type 0 where
  pub told : Told
  pub lines : Text 1 nothing_told text told
  pub makes : IsJobOf told job

-- ** the laws

abbrev pub DerivedTextsAreJobs : Type 0
DerivedTextsAreJobs = (text : List ℕ) (job : JobParts) → Derives text job → job_of text ≡ Ok job

abbrev pub JobsAreDerived : Type 0
JobsAreDerived = (text : List ℕ) (job : JobParts) → job_of text ≡ Ok job → Derives text job

-- a text derives one job
abbrev pub TextsDeriveOneJob : Type 0
TextsDeriveOneJob = (text : List ℕ) (one other : JobParts) → Derives text one → Derives text other → one ≡ other
