use Rattle.std.proofs.Common.{◌≡◌, ◌++◌, take}
use Rattle.run_summary.specs.Summaries.{shown_in}
use Rattle.run_summary.proofs.summaries.push_shown.Given as goal

abbrev pub invariant-loop-line : goal.invariant-loop-line
invariant-loop-line l = l.into.items ≡ l.initial.into.items ++ shown_in (take l.line-index l.lines)
