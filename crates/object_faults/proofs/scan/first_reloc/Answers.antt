use Rattle.std.proofs.Common.{arith}
use Rattle.object_faults.proofs.Order.{at_reloc}
use Rattle.object_faults.proofs.scan.first_reloc.Goals as goal

pub returns-in_err-relocs : goal.returns-in_err-relocs
returns-in_err-relocs c =
    rw c.from_residual.ensures
    (λ e w. c.in_err-relocs.ensures e (at_reloc c.args.fault c.args.tables.now.bytes.now c.args.section e w))

pub returns : goal.returns
returns c = λ e w.
    let within = at_reloc c.args.fault c.args.tables.now.bytes.now c.args.section e w in
    c.loop-entry.invariant e (omega (arith, within.2, c.in_ok-relocs.ensures.count_is)) w
