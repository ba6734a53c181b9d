use Rattle.loaded_bytes.proofs.Meant.{reads_meant}
use Rattle.loaded_bytes.proofs.laws.reads_are_meant.Goals as goal

pub returns : goal.returns
returns c = reads_meant
