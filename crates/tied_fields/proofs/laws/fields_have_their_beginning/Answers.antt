use Rattle.tied_fields.proofs.Begins.{fields_begin}
use Rattle.tied_fields.proofs.laws.fields_have_their_beginning.Goals as goal

pub returns : goal.returns
returns c = fields_begin
