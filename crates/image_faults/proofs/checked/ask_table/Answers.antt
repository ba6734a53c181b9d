use Rattle.std.proofs.Common.{arith}
use Rattle.image_faults.proofs.Order.{first_of_table, kept_table}
use Rattle.image_faults.proofs.checked.ask_table.Goals as goal

pub fault_at-requires-clause-first : goal.fault_at-requires-clause-first
fault_at-requires-clause-first c =
    first_of_table c.args.rule c.args.tables.now.bytes.now c.loop-entry.entry
    (c.breaks.ensures.0 c.if-breaks.true) c.loop-entry.invariant c.requires

pub returns : goal.returns
returns c =
    kept_table c.args.rule c.args.tables.now.bytes.now c.loop-entry.entry
    (omega (arith, c.table_count-entry-end.ensures)) c.loop-entry.invariant c.requires
