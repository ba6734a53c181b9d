use Rattle.tls_map_laws.proofs.Proved.{racers_have_map}
use Rattle.tls_map_laws.proofs.laws.racers_have_map.Goals as goal

pub returns : goal.returns
returns c = racers_have_map
