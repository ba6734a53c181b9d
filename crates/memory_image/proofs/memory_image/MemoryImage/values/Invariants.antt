use Rattle.std.proofs.Common.{◌≡◌, map}
use Rattle.std.specs.List.{range_with_len}
use Rattle.memory_image.specs.Tables.{byte_at}
use Rattle.memory_image.proofs.memory_image.MemoryImage.values.Given as goal

-- the bytes so far
abbrev pub invariant-loop-index : goal.invariant-loop-index
invariant-loop-index l = l.bytes.items ≡ map (byte_at l.self l.bias) (range_with_len 0 l.index)
