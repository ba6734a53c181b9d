use Rattle.loaded_names.proofs.Infos.{infos_loaded}
use Rattle.loaded_names.proofs.laws.infos_are_loaded.Goals as goal

pub returns : goal.returns
returns c = infos_loaded
