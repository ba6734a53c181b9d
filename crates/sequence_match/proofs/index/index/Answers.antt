use Rattle.sequence_match.proofs.Indexed.{index_is, spans_moved}
use Rattle.std.proofs.Common.{length}
use Rattle.sequence_match.proofs.index.index.Goals as goal

pub returns : goal.returns
returns c =
    let xs = c.args.relocations.now in
    index_is c.args.reach xs c.in_ok-sorted.sorted.items c.requires.few
    (spans_moved c.args.reach xs
    (length xs) c.in_ok-spans.spans.items c.in_ok-sorted.sorted.items c.in_ok-spans.ensures c.in_ok-sorted.ensures.permutation)
    c.in_ok-sorted.ensures.rising
