use Rattle.std.proofs.Common.{arith}
use Rattle.object_faults.proofs.Order.{at_symbol}
use Rattle.object_faults.proofs.scan.first_symbol.Goals as goal

pub returns : goal.returns
returns c = λ e w.
    let symbols = c.args.tables.now.symbols in
    let within = at_symbol c.args.fault c.args.tables.now.bytes.now symbols.table e w.1 in
    c.loop-entry.invariant e (omega (arith, within.3, c.args.tables.now.symbols_are.count_is)) w.0 w.1
