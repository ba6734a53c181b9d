-- Which words are accepted, and the command that they give.
use Rattle.std.specs.Prelude.{◌≤◌, ◌==◌, List, [], length, Option, Some, None, codes, unwrap_or, if◌then◌else◌}
use Rattle.std.specs.Option.{option_and_then, option_map}
use Rattle.std.specs.Str.{bytes_eq}
use Rattle.clap.specs.Walk.{Row, Text, first_of}
use Rattle.clap.specs.Faults.{fault_of}
use Rattle.clap.specs.Simple.{subcommand_of}
use Rattle.command_line.specs.declared.tasks.Command.{Command}
use Rattle.command_line.specs.declared.tasks.Command.TheVariants.{Plain, Race}
use Rattle.command_line.specs.declared.tasks.Rewriting.{Rewriting}
use Rattle.command_line.specs.declared.tasks.Rewriting.TheVariants.{Allowed, Off}
use Rattle.command_line.specs.declared.tasks.Task.{Task}
use Rattle.command_line.specs.declared.tasks.Task.TheVariants as task
use Rattle.command_line.specs.CommandSet.{tool_app}
use Rattle.command_line.specs.Counts.{count_of}

-- the text of an argument; a required one has its own, and no empty text is accepted
abbrev pub text_at : Text → List Row → Text
text_at id rows = unwrap_or (first_of id rows) []

-- whether sequences may be rewritten: unless the flag `--no-relax` is set, which reads as `true`
abbrev pub rewriting_at : List Row → Rewriting
rewriting_at rows = if bytes_eq (text_at (codes "no-relax") rows) (codes "true") then Off else Allowed

-- the command that a first word and the values of its arguments give; the number of `gen` is a count
abbrev pub command_of : Text × List Row → Option Command
command_of command =
    if bytes_eq command.0 (codes "run")
    then Some (Plain (task.Run (text_at (codes "JOB") command.1) (rewriting_at command.1))) else
    if bytes_eq command.0 (codes "race")
    then Some (Race (text_at (codes "JOB") command.1) (rewriting_at command.1)) else
    if bytes_eq command.0 (codes "link")
    then Some (Plain (task.Link (text_at (codes "JOB") command.1) (text_at (codes "IMAGE") command.1)
    (text_at (codes "OUT") command.1) (rewriting_at command.1))) else
    if bytes_eq command.0 (codes "sites")
    then Some (Plain (task.Sites (text_at (codes "JOB") command.1) (text_at (codes "IMAGE") command.1))) else
    if bytes_eq command.0 (codes "show") then Some (Plain (task.Show (text_at (codes "FILE") command.1))) else
    if bytes_eq command.0 (codes "check") then Some (Plain (task.Check (text_at (codes "JOB") command.1))) else
    if bytes_eq command.0 (codes "gen")
    then option_map Plain (option_map task.Gen (count_of (text_at (codes "N") command.1))) else
    None

-- the command that the words give, if `clap` accepts them
unfoldable pub asked : List Text → Option Command
asked words =
    if length (fault_of tool_app words) == 0 then option_and_then command_of (subcommand_of tool_app words) else None

-- `gen` makes from 1 to 1,000 objects
abbrev pub IsInLimits : Task → Type 0
IsInLimits (task.Gen count) = (1 ≤ count) × (count ≤ 1000)
IsInLimits _ = Unit {0}

abbrev pub IsWithinLimits : Command → Type 0
IsWithinLimits (Plain own) = IsInLimits own
IsWithinLimits (Race job rewriting) = Unit {0}
