use Rattle.std.proofs.Common.{◌≡◌, ◌++◌, drop}
use Rattle.job_link.specs.Linked.{exports_of}
use Rattle.job_link.proofs.preparing.startup_exports.Given as goal

abbrev pub invariant-loop-image : goal.invariant-loop-image
invariant-loop-image l = l.startup.items ++ exports_of (drop l.image-index l.images) ≡ exports_of l.images
