use Rattle.standing_sequences.proofs.Choosing.{choices_are_the_tables}
use Rattle.standing_sequences.proofs.laws.choices_are_the_tables.Goals as goal

pub returns : goal.returns
returns c = choices_are_the_tables
