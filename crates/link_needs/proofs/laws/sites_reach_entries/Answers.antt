use Rattle.link_needs.proofs.Reached.{sites_reach_entries}
use Rattle.link_needs.proofs.laws.sites_reach_entries.Goals as goal

pub returns : goal.returns
returns c = sites_reach_entries
