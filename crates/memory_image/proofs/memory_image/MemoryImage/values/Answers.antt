use Rattle.std.proofs.Common.{◌^◌, arith}
use Rattle.memory_image.proofs.Ranging.{few_values}
use Rattle.memory_image.proofs.memory_image.MemoryImage.values.Goals as goal

-- there are no more values than the class has bytes
pub returns-clause-few : goal.returns-clause-few
returns-clause-few c =
    few_values c.args.self.now c.args.bias c.loop-index.index (2 ^ 25) c.loop-index.bytes.items
    (omega (arith, c.bytes-count.ensures.few, c.loop-index.auto.index-end)) c.loop-index.invariant
