use Rattle.std.proofs.Common.{◌-◌, arith}
use Rattle.sequence_match.proofs.Spans.{below_last, lt_of, of_lt}
use Rattle.sequence_match.proofs.index.are_below.Goals as goal

pub returns-else-count-eq0 : goal.returns-else-count-eq0
returns-else-count-eq0 c = (
  λ t. below_last c.args.spans.now c.requires.rising c.args.limit c.args.count _ c.requires.count (omega arith)
      (lt_of _ _ t),
  λ h. of_lt _ _ (h (c.args.count - 1) _ (omega arith) (omega arith)),
)
