use Rattle.standing_sequences.proofs.Holding.{images_hold}
use Rattle.standing_sequences.proofs.laws.linked_images_hold_the_table.Goals as goal

pub returns : goal.returns
returns c = images_hold
