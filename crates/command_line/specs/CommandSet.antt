-- The commands of the linker, as values that say what `clap` reads: a subcommand for each command.
use Rattle.std.specs.Prelude.{true, List, [], ◌∷◌, Some, codes, map}
use Rattle.std.specs.List.{fold}
use Rattle.clap.specs.Walk.{Rule, Text}
use Rattle.clap.specs.Simple.{App, Shape, new_app, new_rule, on_top, with_rule, with_subcommand}
use Rattle.clap.specs.declared.builder.action.ArgAction.TheVariants.{SetTrue}

-- a required word, which may be any text
abbrev pub text_rule : Text → Rule
text_rule id = record (new_rule id) { required = true }

-- `--no-relax`, at most once
abbrev pub no_relax_rule : Rule
no_relax_rule = record (new_rule (codes "no-relax")) {
  long = Some (codes "no-relax");
  action = Some SetTrue;
}

-- a command with these required words
abbrev pub command_with : Text → List Text → App
command_with name words = fold with_rule (new_app name) (map text_rule words)

-- the commands
abbrev pub commands : List App
commands =
    with_rule (command_with (codes "run") (codes "JOB" ∷ [])) no_relax_rule
    ∷ with_rule (command_with (codes "race") (codes "JOB" ∷ [])) no_relax_rule
    ∷ with_rule (command_with (codes "link") (codes "JOB" ∷ codes "IMAGE" ∷ codes "OUT" ∷ [])) no_relax_rule
    ∷ command_with (codes "sites") (codes "JOB" ∷ codes "IMAGE" ∷ [])
    ∷ command_with (codes "show") (codes "FILE" ∷ [])
    ∷ command_with (codes "check") (codes "JOB" ∷ [])
    ∷ command_with (codes "gen") (codes "N" ∷ [])
    ∷ []

-- the words begin with a command, and there is no command `help`
abbrev pub top_settings : Shape → Shape
top_settings s = record s { no_binary_name = true; subcommand_required = true; disable_help_subcommand = true }

-- a tool with these commands
abbrev pub tool_of : List App → App
tool_of = fold (λ tool command. with_subcommand tool command.top) (on_top top_settings (new_app (codes "tlsld")))

abbrev pub tool_app : App
tool_app = tool_of commands
