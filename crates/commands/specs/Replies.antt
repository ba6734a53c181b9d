-- What the top calls promise.
use Rattle.std.specs.Prelude.{◌≡◌, ◌≤◌, ℕ, ◌⊎◌, List, Option, Some, None}
use Rattle.command_line.specs.declared.tasks.Command.{Command}
use Rattle.command_replies.specs.Delivery.{store_line, usage_line}
use Rattle.ports.specs.Files.{AsksFront, Files}
use Rattle.ports.specs.Files.{with_names}
use Rattle.commands.specs.Commands.{CommandLeaves, CommandSays, command_names}
use Rattle.commands.specs.Untold.{UntoldSays}

-- ---- the whole command

-- what a command may say, and with which status: that the store failed, or what it says over the store's files before
-- and after it; if the store does not show its files, what the command may say over any
abbrev pub MaySay : Option Files → Option Files → Command → ℕ → List ℕ → Type 0
MaySay None after asked own text = ((own ≡ 3) × (text ≡ store_line)) ⊎ UntoldSays asked own text
MaySay (Some fs) after asked own text = ((own ≡ 3) × (text ≡ store_line)) ⊎ CommandSays fs after asked own text

-- the names asked for: a prefix of the command's names, and all of them if it ended with a status of its own
pub record Asked (fs : Files) (asked : Command) (old new : Option (List (List ℕ))) (code : ℕ) : Type 0 where
  pub front : AsksFront (command_names fs asked) old new
  pub all : (code ≡ 0) ⊎ (5 ≤ code) → new ≡ with_names (command_names fs asked) old

-- ---- the words

-- what words may say: that they are not accepted, or what their command may say
abbrev pub WordsMaySay : Option Files → Option Files → Option Command → ℕ → List ℕ → Type 0
WordsMaySay files after None own text = (own ≡ 2) × (text ≡ usage_line)
WordsMaySay files after (Some asked) own text = MaySay files after asked own text

-- the files after the command of some words: as before, unless it put a whole image
abbrev pub WordsLeave : Option Files → Option Files → Option Command → Type 0
WordsLeave before after None = after ≡ before
WordsLeave before after (Some asked) = CommandLeaves before after asked

abbrev pub AskedWords : Files → Option Command → Option (List (List ℕ)) → Option (List (List ℕ)) → ℕ → Type 0
AskedWords fs None old new code = new ≡ old
AskedWords fs (Some asked) old new code = Asked fs asked old new code
