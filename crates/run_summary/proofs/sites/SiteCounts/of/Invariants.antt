use Rattle.std.proofs.Common.{◌≡◌, take}
use Rattle.run_summary.specs.Summaries.{counts_of}
use Rattle.run_summary.proofs.sites.SiteCounts.of.Given as goal

abbrev pub invariant-loop-image : goal.invariant-loop-image
invariant-loop-image l = l.counts ≡ counts_of (take l.image-index l.images)
