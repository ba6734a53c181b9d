use Rattle.tied_sites.proofs.AllSites.{all_sites}
use Rattle.tied_sites.proofs.laws.sites_stand.Goals as goal

pub returns : goal.returns
returns c = all_sites
