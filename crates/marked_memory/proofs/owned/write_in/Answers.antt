-- The first range that may be written there takes the byte.
use Rattle.std.proofs.Common.{◌∙◌, ◌<◌, ◌≤◌, length, set, sym, ap, refl, arith}
use Rattle.guest_memory.specs.Writable.{first_writable}
use Rattle.thread_blocks.specs.Held.{ranges_in}
use Rattle.marked_memory.proofs.Writes.{holds-at, written-at, written-none}
use Rattle.marked_memory.proofs.owned.write_in.Goals as goal

pub set_byte-requires : goal.set_byte-requires
set_byte-requires c =
    let found : first_writable (ranges_in c.args.owned.now) c.args.place < length c.args.owned.now = omega arith in
    rw (c.writable_at-index.ensures, holds-at c.args.place c.args.owned.now c.index-owned-index.result found) refl

pub returns-then-index-owned : goal.returns-then-index-owned
returns-then-index-owned c =
    ap (λ range. set c.args.owned.now c.writable_at-index.result range) c.set_byte.ensures
    ∙ sym (written-at c.args.place c.args.byte c.args.owned.now c.index-owned-index.result _ c.writable_at-index.ensures c.if-index-owned.true)

pub returns-else-index-owned : goal.returns-else-index-owned
returns-else-index-owned c =
    let none : length c.args.owned.now ≤ first_writable (ranges_in c.args.owned.now) c.args.place = omega arith in
    sym (written-none c.args.place c.args.byte c.args.owned.now none)
