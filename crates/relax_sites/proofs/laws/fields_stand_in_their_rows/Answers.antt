use Rattle.relax_sites.proofs.Tables.{field_stands}
use Rattle.relax_sites.proofs.laws.fields_stand_in_their_rows.Goals as goal

pub returns : goal.returns
returns c = field_stands
