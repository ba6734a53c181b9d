use Rattle.std.proofs.Common.{◌≡◌}
use Rattle.object_faults.specs.Parts.{is_table}
use Rattle.object_faults.specs.Firsts.{first_below}
use Rattle.object_faults.proofs.tables.symbol_table.Given as goal

abbrev pub invariant-loop-section : goal.invariant-loop-section
invariant-loop-section l = first_below (is_table l.headers.bytes.now) l.section ≡ 0
