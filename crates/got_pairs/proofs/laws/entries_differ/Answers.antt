use Rattle.got_pairs.proofs.Tables.{entries_differ}
use Rattle.got_pairs.proofs.laws.entries_differ.Goals as goal

pub returns : goal.returns
returns c = entries_differ
