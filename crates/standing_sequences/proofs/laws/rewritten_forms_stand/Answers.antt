use Rattle.standing_sequences.proofs.Rewritten.{rewritten_forms_stand}
use Rattle.standing_sequences.proofs.laws.rewritten_forms_stand.Goals as goal

pub returns : goal.returns
returns c = rewritten_forms_stand
