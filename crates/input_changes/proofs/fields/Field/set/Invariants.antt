use Rattle.std.proofs.Common.{◌≤◌}
use Rattle.input_changes.specs.Differing.{differing}
use Rattle.input_changes.proofs.fields.Field.set.Given as goal

-- a byte a turn
abbrev pub invariant-loop-number : goal.invariant-loop-number
invariant-loop-number l = differing l.initial.bytes l.bytes ≤ l.number
