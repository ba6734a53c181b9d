use Rattle.standing_sequences.proofs.Agreeing.{images_agree}
use Rattle.standing_sequences.proofs.laws.images_with_the_table_agree.Goals as goal

pub returns : goal.returns
returns c = images_agree
