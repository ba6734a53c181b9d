use Rattle.loaded_bytes.proofs.Still.{constants_loaded}
use Rattle.loaded_bytes.proofs.laws.constants_are_loaded.Goals as goal

pub returns : goal.returns
returns c = constants_loaded
