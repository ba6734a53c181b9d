-- What a thread may do.
use Rattle.std.specs.Prelude.{◌≤◌}
use Rattle.job_text.specs.declared.thread_lines.Action.{Action}
use Rattle.job_text.specs.declared.thread_lines.Action.TheVariants.{Call, Open, Close, Peek}

-- a peek shows at most 4,096 bytes
abbrev pub IsAction : Action → Type 0
IsAction (Call symbol a b c) = Unit {0}
IsAction Open = Unit {0}
IsAction Close = Unit {0}
IsAction (Peek symbol length) = length ≤ 4096
