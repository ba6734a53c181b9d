use Rattle.standing_sequences.proofs.Sequences.{by_the_table}
use Rattle.standing_sequences.proofs.laws.sequences_stand_by_the_table.Goals as goal

pub returns : goal.returns
returns c = by_the_table
