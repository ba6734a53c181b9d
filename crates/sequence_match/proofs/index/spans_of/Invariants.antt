use Rattle.sequence_match.specs.Code.{AreSpans}
use Rattle.sequence_match.proofs.index.spans_of.Given as goal

abbrev pub invariant-loop-entry : goal.invariant-loop-entry
invariant-loop-entry l = AreSpans l.reach l.relocations l.entry l.spans.items
