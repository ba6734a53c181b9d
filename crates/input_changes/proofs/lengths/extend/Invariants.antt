use Rattle.std.proofs.Common.{◌≤◌, ◌+◌, ◌≡◌, length}
use Rattle.input_changes.specs.Differing.{differing}
use Rattle.input_changes.proofs.lengths.extend.Given as goal

-- a byte a turn, behind the file
abbrev pub invariant-loop : goal.invariant-loop
invariant-loop l = (differing l.initial.bytes.items l.bytes.items ≡ 0)
    × (length l.initial.bytes.items ≤ length l.bytes.items)
    × (length l.bytes.items ≤ length l.initial.bytes.items + l.counter)
