use Rattle.std.proofs.Common.{◌≡◌, map, take}
use Rattle.run_summary.specs.Summaries.{objects_counts, plus}
use Rattle.run_summary.proofs.sites.SiteCounts.with_image.Given as goal

abbrev pub invariant-loop-choices : goal.invariant-loop-choices
invariant-loop-choices l =
    l.counts ≡ plus l.initial.counts (objects_counts (map (λ own. own.items) (take l.choices-index l.choices-items)))
