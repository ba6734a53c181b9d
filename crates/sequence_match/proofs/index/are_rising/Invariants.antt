use Rattle.sequence_match.specs.declared.index.Span.{Span}
use Rattle.sequence_match.specs.Code.{order_of}
use Rattle.sequence_match.proofs.Spans.{RiseTo}
use Rattle.sequence_match.proofs.index.are_rising.Given as goal

abbrev pub invariant-loop-index : goal.invariant-loop-index
invariant-loop-index l = RiseTo Span order_of l.spans l.index
