-- Whether sequences may be rewritten.
use Rattle.std.specs.Prelude.{Bool, true, false}
use Rattle.command_line.specs.declared.tasks.Rewriting.{Rewriting}
use Rattle.command_line.specs.declared.tasks.Rewriting.TheVariants.{Allowed, Off}

abbrev pub is_allowed : Rewriting → Bool
is_allowed Allowed = true
is_allowed Off = false
