use Rattle.loaded_bytes.proofs.Small.{bytes_small}
use Rattle.loaded_bytes.proofs.laws.bytes_are_small.Goals as goal

pub returns : goal.returns
returns c = bytes_small
