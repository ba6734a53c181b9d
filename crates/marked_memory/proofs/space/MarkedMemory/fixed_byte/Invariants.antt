-- None so far has the place.
use Rattle.std.proofs.Common.{◌≡◌, drop}
use Rattle.guest_operands.specs.Ranges.{byte_in}
use Rattle.thread_blocks.specs.Instances.{fixed_of}
use Rattle.whole_meaning.specs.Loads.{loads_of}
use Rattle.marked_memory.proofs.space.MarkedMemory.fixed_byte.Given as goal

abbrev pub invariant-loop-instance : goal.invariant-loop-instance
invariant-loop-instance l =
    byte_in l.access (fixed_of (loads_of l.self.images) l.self.live) l.place
    ≡ byte_in l.access (fixed_of (loads_of l.self.images) (drop l.instance-index l.instance-items)) l.place
