use Rattle.std.proofs.Common.{◌≡◌, ◌+◌, ◌%◌, ◌^◌, take}
use Rattle.run_summary.specs.Summaries.{lines_sum}
use Rattle.run_summary.proofs.summaries.with_lines.Given as goal

abbrev pub invariant-loop-line : goal.invariant-loop-line
invariant-loop-line l = l.sum ≡ (l.initial.sum + lines_sum (take l.line-index l.lines)) % 2 ^ 64
