use Rattle.standing_sequences.proofs.Kept.{fields_stand}
use Rattle.standing_sequences.proofs.laws.fields_stand.Goals as goal

pub returns : goal.returns
returns c = fields_stand
