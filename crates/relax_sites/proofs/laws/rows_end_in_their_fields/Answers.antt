use Rattle.relax_sites.proofs.Tables.{field_end}
use Rattle.relax_sites.proofs.laws.rows_end_in_their_fields.Goals as goal

pub returns : goal.returns
returns c = field_end
