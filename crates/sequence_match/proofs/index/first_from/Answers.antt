use Rattle.std.proofs.Common.{arith}
use Rattle.sequence_match.proofs.Spans.{first_is}
use Rattle.sequence_match.proofs.index.first_from.Goals as goal

pub returns : goal.returns
returns c = first_is c.args.spans.now c.requires.rising c.args.limit c.count_below-count.result c.count_below-count.ensures _ (omega (arith, c.count_below-count.ensures.few))
