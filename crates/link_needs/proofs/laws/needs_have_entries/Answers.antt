use Rattle.link_needs.proofs.Reached.{needs_have_entries}
use Rattle.link_needs.proofs.laws.needs_have_entries.Goals as goal

pub returns : goal.returns
returns c = needs_have_entries
