use Rattle.std.proofs.Common.{arith}
use Rattle.sequence_match.specs.declared.index.Span.{Span}
use Rattle.sequence_match.specs.Code.{order_of}
use Rattle.sequence_match.proofs.Spans.{rise_more}
use Rattle.sequence_match.proofs.index.are_rising.Goals as goal

pub loop-index-preserved : goal.loop-index-preserved
loop-index-preserved c =
    let none : Span = record { offset = 0; width = 0; entry = 0 } in
    rise_more order_of c.args.spans.now c.loop-index.index none c.loop-index.invariant c.loop-index.auto.index
    (omega (arith, c.order.ensures, c.order-in-loop-index.ensures, c.if-order.false))
