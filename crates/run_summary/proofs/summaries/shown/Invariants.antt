use Rattle.std.proofs.Common.{◌≡◌, take}
use Rattle.run_summary.specs.Summaries.{shown_of}
use Rattle.run_summary.proofs.summaries.shown.Given as goal

abbrev pub invariant-loop-index : goal.invariant-loop-index
invariant-loop-index l = l.bytes.items ≡ shown_of (take l.index l.transcript.threads)
