-- No part so far has the byte.
use Rattle.std.proofs.Common.{◌≡◌}
use Rattle.guest_operands.specs.Ranges.{byte_in}
use Rattle.thread_blocks.specs.JobLoads.{parts_from}
use Rattle.thread_space.specs.OfParts.{fixed_ranges}
use Rattle.thread_space.proofs.PartBytes.{fixed_from}
use Rattle.thread_space.proofs.space.ThreadSpace.byte_of_image.Given as goal

abbrev pub invariant-loop-number : goal.invariant-loop-number
invariant-loop-number l =
    byte_in l.access (fixed_ranges (parts_from l.self.vector.images l.image l.instance 0 l.image.parts)) l.place
    ≡ fixed_from l.self.vector.images l.image l.instance l.access l.place l.number
