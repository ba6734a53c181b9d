use Rattle.tied_sites.proofs.AllSites.{local_sites}
use Rattle.tied_sites.proofs.laws.local_sites_stand.Goals as goal

pub returns : goal.returns
returns c = local_sites
