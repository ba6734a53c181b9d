use Rattle.sequence_match.proofs.Nearby.{above_from}
use Rattle.sequence_match.proofs.near.first_above.Goals as goal

pub returns-then-place-at-clause-above : goal.returns-then-place-at-clause-above
returns-then-place-at-clause-above c =
    above_from c.args.relocations.now c.requires.rise c.args.place c.loop-entry.entry _ c.at.ensures c.if-place-at.true
