use Rattle.loaded_bytes.proofs.Meant.{data_meant}
use Rattle.loaded_bytes.proofs.laws.data_is_meant.Goals as goal

pub returns : goal.returns
returns c = data_meant
