use Rattle.std.proofs.Common.{◌≡◌, ◌≤◌, filter, length, take}
use Rattle.run_summary.specs.Summaries.{is_rewritten}
use Rattle.run_summary.proofs.sites.rewritten_count.Given as goal

abbrev pub invariant-loop-choice : goal.invariant-loop-choice
invariant-loop-choice l =
    (l.count ≡ length (filter is_rewritten (take l.choice-index l.choices))) × (l.count ≤ l.choice-index)
