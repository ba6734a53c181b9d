use Rattle.relax_sites.proofs.Tables.{row_length}
use Rattle.relax_sites.proofs.laws.rows_have_their_forms_length.Goals as goal

pub returns : goal.returns
returns c = row_length
