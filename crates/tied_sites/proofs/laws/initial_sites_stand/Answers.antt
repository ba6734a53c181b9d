use Rattle.tied_sites.proofs.AllSites.{initial_sites}
use Rattle.tied_sites.proofs.laws.initial_sites_stand.Goals as goal

pub returns : goal.returns
returns c = initial_sites
