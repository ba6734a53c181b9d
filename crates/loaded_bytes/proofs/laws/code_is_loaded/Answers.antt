use Rattle.loaded_bytes.proofs.Still.{code_loaded}
use Rattle.loaded_bytes.proofs.laws.code_is_loaded.Goals as goal

pub returns : goal.returns
returns c = code_loaded
