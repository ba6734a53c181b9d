-- What was read has a spelling.
use Rattle.amd64_encoder.proofs.Spellable.{decoded_spellable}
use Rattle.amd64_encoder.proofs.laws.spellable.Goals as goal

pub returns : goal.returns
returns c = decoded_spellable
