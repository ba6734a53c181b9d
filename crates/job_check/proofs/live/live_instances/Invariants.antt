-- What is listed and what is left to be listed are all.
use Rattle.std.proofs.Common.{◌≡◌, ◌++◌}
use Rattle.thread_blocks.specs.Instances.{instances_in}
use Rattle.job_check.specs.Histories.{infos_of}
use Rattle.job_check.proofs.Listed.{from_image}
use Rattle.job_check.proofs.live.live_instances.Given as goal

abbrev pub invariant-loop-image : goal.invariant-loop-image
invariant-loop-image l =
    instances_in (infos_of l.images) l.table ≡ l.live.items ++ from_image (infos_of l.images) l.table l.image
