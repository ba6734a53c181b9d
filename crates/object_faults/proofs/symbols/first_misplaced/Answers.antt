use Rattle.std.proofs.Common.{arith}
use Rattle.object_faults.proofs.Order.{at_order}
use Rattle.object_faults.proofs.symbols.first_misplaced.Goals as goal

pub returns : goal.returns
returns c = λ e w.
    let symbols = c.args.tables.now.symbols in
    let within = at_order c.args.tables.now.bytes.now symbols.table e w.0 w.1 in
    c.loop-entry.invariant e (omega (arith, within.3, c.args.tables.now.symbols_are.count_is)) w.0 w.1
