use Rattle.std.proofs.Common.{◌≡◌, map}
use Rattle.link_core.specs.Images.{linked_of}
use Rattle.job_link.proofs.preparing.write_images.Given as goal

abbrev pub invariant-loop-ready : goal.invariant-loop-ready
invariant-loop-ready g l = l.written.items ≡ map linked_of l.yielded
