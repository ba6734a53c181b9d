use Rattle.sequence_match.proofs.ApartSites.{sites_apart}
use Rattle.sequence_match.proofs.laws.sites_are_apart.Goals as goal

pub returns : goal.returns
returns c = sites_apart
