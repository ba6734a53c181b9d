use Rattle.standing_sequences.proofs.Rows.{rows_differ}
use Rattle.standing_sequences.proofs.laws.rows_differ.Goals as goal

pub returns : goal.returns
returns c = rows_differ
