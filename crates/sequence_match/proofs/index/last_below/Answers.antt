use Rattle.std.proofs.Common.{arith}
use Rattle.sequence_match.proofs.Spans.{last_is}
use Rattle.sequence_match.proofs.index.last_below.Goals as goal

pub returns : goal.returns
returns c = last_is c.args.spans.now c.requires.rising c.args.limit c.count_below-count.result c.count_below-count.ensures _ (omega arith)
