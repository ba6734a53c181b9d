use Rattle.loaded_bytes.proofs.Values.{bytes_meant}
use Rattle.loaded_bytes.proofs.laws.bytes_are_meant.Goals as goal

pub returns : goal.returns
returns c = bytes_meant
