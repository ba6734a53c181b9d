use Rattle.tls_map_laws.proofs.Proved.{jobs_have_map}
use Rattle.tls_map_laws.proofs.laws.jobs_have_map.Goals as goal

pub returns : goal.returns
returns c = jobs_have_map
