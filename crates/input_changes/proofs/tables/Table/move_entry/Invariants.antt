use Rattle.std.proofs.Common.{◌≤◌, ◌*◌}
use Rattle.input_changes.specs.Differing.{differing}
use Rattle.input_changes.proofs.tables.Table.move_entry.Given as goal

-- two bytes a turn
abbrev pub invariant-loop-at : goal.invariant-loop-at
invariant-loop-at l = differing l.initial.bytes l.bytes ≤ 2 * l.at
