use Rattle.std.proofs.Common.{◌<◌, ◌≤◌, length, set, sym, ap, refl, ◌∙◌, arith}
use Rattle.guest_memory.specs.Writable.{first_writable}
use Rattle.guest_memory.proofs.Writes.{with_byte-index, with_byte-none, holds-at}
use Rattle.guest_memory.proofs.memory.write_in.Goals as goal

pub set_byte-requires : goal.set_byte-requires
set_byte-requires g c =
    let found : first_writable c.args.ranges.now c.args.place < length c.args.ranges.now = omega arith in
    rw (c.writable_at-index.ensures, holds-at c.args.place c.args.ranges.now c.index-ranges-index.result found) refl

pub returns-then-index-ranges : goal.returns-then-index-ranges
returns-then-index-ranges g c =
    ap (λ range. set c.args.ranges.now c.writable_at-index.result range) c.set_byte.ensures
    ∙ sym (with_byte-index c.args.place c.args.byte c.args.ranges.now c.index-ranges-index.result _ c.writable_at-index.ensures c.if-index-ranges.true)

pub returns-else-index-ranges : goal.returns-else-index-ranges
returns-else-index-ranges g c =
    let none : length c.args.ranges.now ≤ first_writable c.args.ranges.now c.args.place = omega arith in
    sym (with_byte-none c.args.place c.args.byte c.args.ranges.now none)
