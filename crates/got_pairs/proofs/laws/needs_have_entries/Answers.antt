use Rattle.got_pairs.proofs.Tables.{needs_have_entries}
use Rattle.got_pairs.proofs.laws.needs_have_entries.Goals as goal

pub returns : goal.returns
returns c = needs_have_entries
