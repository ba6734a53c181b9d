-- None so far has the place.
use Rattle.std.proofs.Common.{◌≡◌, drop}
use Rattle.guest_operands.specs.Ranges.{byte_in}
use Rattle.thread_blocks.specs.Instances.{fixed_of}
use Rattle.thread_blocks.specs.JobLoads.{job_loads}
use Rattle.thread_space.specs.Kept.{live_in}
use Rattle.thread_space.proofs.space.ThreadSpace.fixed_byte.Given as goal

abbrev pub invariant-loop-instance : goal.invariant-loop-instance
invariant-loop-instance l =
    byte_in l.access (fixed_of (job_loads l.self.vector.images)
    (live_in l.self.vector.images l.self.vector.past)) l.place
    ≡ byte_in l.access (fixed_of (job_loads l.self.vector.images) (drop l.instance-index l.instance-items)) l.place
