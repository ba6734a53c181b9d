use Rattle.got_pairs.proofs.Tables.{entries_are_needed}
use Rattle.got_pairs.proofs.laws.entries_are_needed.Goals as goal

pub returns : goal.returns
returns c = entries_are_needed
