use Rattle.loaded_names.proofs.Meant.{infos_meant}
use Rattle.loaded_names.proofs.laws.infos_are_meant.Goals as goal

pub returns : goal.returns
returns c = infos_meant
