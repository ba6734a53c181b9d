use Rattle.tls_map_laws.proofs.Proved.{meant_jobs_have_map}
use Rattle.tls_map_laws.proofs.laws.meant_jobs_have_map.Goals as goal

pub returns : goal.returns
returns c = meant_jobs_have_map
