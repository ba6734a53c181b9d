use Rattle.std.proofs.Common.{◌≡◌, ◌%◌, ◌^◌, take}
use Rattle.std.specs.Prelude.{sum_by}
use Rattle.run_summary.specs.Summaries.{lines_sum}
use Rattle.run_summary.proofs.summaries.returned_sum.Given as goal

abbrev pub invariant-loop-index : goal.invariant-loop-index
invariant-loop-index l = l.sum ≡ sum_by lines_sum (take l.index l.transcript.threads) % 2 ^ 64
