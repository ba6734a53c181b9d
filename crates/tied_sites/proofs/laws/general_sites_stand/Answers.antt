use Rattle.tied_sites.proofs.AllSites.{general_sites}
use Rattle.tied_sites.proofs.laws.general_sites_stand.Goals as goal

pub returns : goal.returns
returns c = general_sites
