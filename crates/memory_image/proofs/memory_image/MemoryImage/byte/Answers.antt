use Rattle.std.proofs.Common.{◌+◌, ◌-◌, ap, arith, length}
use Rattle.memory_image.proofs.Moving.{past_class}
use Rattle.memory_image.proofs.memory_image.MemoryImage.byte.Goals as goal

pub returns-then-bytes-index : goal.returns-then-bytes-index
returns-then-bytes-index c =
    let now = c.args.self.now in
    let len = ap length c.bytes.ensures.bytes in
    past_class now c.args.bias c.args.place (c.args.place - (now.start + c.args.bias))
    (omega (arith, c.start.ensures.start))
    (omega (arith, c.start.ensures.start, len))
