use Rattle.std.proofs.Common.{take}
use Rattle.command_trials.specs.Words.{AreKinds}
use Rattle.command_trials.proofs.plan.are_kinds.Given as goal

-- each name so far is that of a kind
abbrev pub invariant-loop-name : goal.invariant-loop-name
invariant-loop-name l = AreKinds (take l.name-index l.names)
