use Rattle.loaded_bytes.proofs.Data.{data_loaded}
use Rattle.loaded_bytes.proofs.laws.data_is_loaded.Goals as goal

pub returns : goal.returns
returns c = data_loaded
