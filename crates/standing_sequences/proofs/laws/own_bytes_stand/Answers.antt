use Rattle.standing_sequences.proofs.Kept.{own_bytes_stand}
use Rattle.standing_sequences.proofs.laws.own_bytes_stand.Goals as goal

pub returns : goal.returns
returns c = own_bytes_stand
