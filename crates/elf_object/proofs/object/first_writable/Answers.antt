use Rattle.std.proofs.Common.{arith}
use Rattle.elf_object.specs.Laws.{writable_in_table}
use Rattle.elf_object.proofs.object.first_writable.Goals as goal

pub loop-section-init : goal.loop-section-init
loop-section-init c = λ s h w. let within = writable_in_table c.args.tables.now.bytes.now s w in omega (arith, within.0)

pub returns : goal.returns
returns c = λ s w.
    let within = writable_in_table c.args.tables.now.bytes.now s w in
    c.loop-section.invariant s (omega (arith, within.1, c.args.tables.now.count_is)) w
