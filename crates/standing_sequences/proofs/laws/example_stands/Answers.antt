use Rattle.standing_sequences.proofs.Example.{example_stands}
use Rattle.standing_sequences.proofs.laws.example_stands.Goals as goal

pub returns : goal.returns
returns c = example_stands
