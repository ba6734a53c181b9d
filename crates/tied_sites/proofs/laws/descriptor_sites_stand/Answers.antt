use Rattle.tied_sites.proofs.AllSites.{descriptor_sites}
use Rattle.tied_sites.proofs.laws.descriptor_sites_stand.Goals as goal

pub returns : goal.returns
returns c = descriptor_sites
