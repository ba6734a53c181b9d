-- What is known of a command over a store that does not show its files: it asks for the names that it asks for over
-- some files, its own status is one that the command has, and `gen`, which reads none, says what it says over any
-- store.
use Rattle.std.specs.Prelude.{◌≡◌, ◌≤◌, ◌⊎◌, ℕ, List, Option, None, Some}
use Rattle.command_line.specs.declared.tasks.Command.{Command}
use Rattle.command_line.specs.declared.tasks.Command.TheVariants.{Plain}
use Rattle.command_line.specs.declared.tasks.Task.TheVariants.{Check, Show, Gen}
use Rattle.ports.specs.Files.{Files}
use Rattle.commands.specs.GeneratedRuns.{GenSays}

-- so of these files; over a store that does not show its files, so of some
abbrev pub Over : Option Files → (Files → Type 0) → Type 0
Over None P = (fs : Files) × P fs
Over (Some fs) P = P fs

-- the own status of a command about a job: it is done; the job, an object or the link of an image is refused; or, if
-- the command judges jobs, the job is unclean
abbrev pub HasJobStatus : Type 0 → ℕ → Type 0
HasJobStatus Judges own = ((own ≡ 0) ⊎ ((5 ≤ own) × (own ≤ 7))) ⊎ (Judges × (own ≡ 9))

-- that of `show`: it is done, or the image is refused
abbrev pub HasImageStatus : ℕ → Type 0
HasImageStatus own = (own ≡ 0) ⊎ (own ≡ 8)

-- what a command may say, whatever the files
abbrev pub UntoldSays : Command → ℕ → List ℕ → Type 0
UntoldSays (Plain (Check job)) own text = HasJobStatus (Unit {0}) own
UntoldSays (Plain (Show file)) own text = HasImageStatus own
UntoldSays (Plain (Gen count)) own text = GenSays count own text
UntoldSays command own text = HasJobStatus ⊥ own
