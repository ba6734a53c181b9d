use Rattle.link_needs.proofs.Reached.{fields_reach_entries}
use Rattle.link_needs.proofs.laws.fields_reach_entries.Goals as goal

pub returns : goal.returns
returns c = fields_reach_entries
