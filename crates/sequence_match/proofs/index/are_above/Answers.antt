use Rattle.std.proofs.Common.{arith}
use Rattle.std.proofs.lemmas.Bool.{le-leb, leb-true}
use Rattle.sequence_match.proofs.Spans.{above_first}
use Rattle.sequence_match.proofs.index.are_above.Goals as goal

pub returns-else-count-spans : goal.returns-else-count-spans
returns-else-count-spans c = (
  λ t. above_first c.args.spans.now c.requires.rising c.args.limit c.args.count _ (omega arith) (leb-true _ _ t),
  λ h. le-leb _ _ (h c.args.count _ (omega arith) (omega arith)),
)
