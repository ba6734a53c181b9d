use Rattle.relax_sites.proofs.Tables.{stays}
use Rattle.relax_sites.proofs.laws.rewriting_stays_in_the_site.Goals as goal

pub returns : goal.returns
returns c = stays
