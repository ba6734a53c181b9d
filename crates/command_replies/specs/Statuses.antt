-- The statuses that the program ends with, and what they say about the store and the sink.
use Rattle.std.specs.Prelude.{◌≡◌, ℕ, ◌<◌, ◌≤◌, ◌⊎◌, Bool, false, Option}
use Rattle.ports.specs.Files.{Files}
use Rattle.ports.specs.Counts.{Rose}
use Rattle.command_replies.specs.declared.statuses.Status.{Status}
use Rattle.command_replies.specs.declared.statuses.Status.TheVariants.{Done, Usage, Store, Job, Object, Link, Image}
use Rattle.command_replies.specs.declared.statuses.Status.TheVariants.{Unclean}

-- the number of a status that a command itself gives; 1 and 4 come from writing its text
abbrev pub code_of : Status → ℕ
code_of Done = 0
code_of Usage = 2
code_of Store = 3
code_of Job = 5
code_of Object = 6
code_of Link = 7
code_of Image = 8
code_of Unclean = 9

-- the text did not get through, so that the number is not the command's own: memory ran out, or the sink failed
abbrev pub IsLate : ℕ → Type 0
IsLate code = (code ≡ 1) ⊎ (code ≡ 4)

-- the files change only if the status is 0, or if the text did not get through
abbrev pub FilesShown : Option Files → Option Files → ℕ → Type 0
FilesShown before after code = ((code ≡ 0) ⊎ IsLate code) ⊎ (after ≡ before)

-- 3 means that the store failed; if it failed, the status is 3, or that of a text that did not get through
pub record StoreShown (before now code : ℕ) : Type 0 where
  pub later : before ≤ now
  pub cause : code ≡ 3 → Rose before now
  pub shown : before < now → (code ≡ 3) ⊎ IsLate code

-- 4 means that the sink failed; if it failed, the status is 4
pub record SinkShown (before now code : ℕ) : Type 0 where
  pub later : before ≤ now
  pub cause : code ≡ 4 → Rose before now
  pub shown : before < now → code ≡ 4

-- 2 means that the words are not accepted; if they are not, the status is 2, or that of a text that did not get through
pub record UsageShown (taken : Bool) (code : ℕ) : Type 0 where
  pub cause : code ≡ 2 → taken ≡ false
  pub shown : taken ≡ false → (code ≡ 2) ⊎ IsLate code
