use Rattle.field_laws.proofs.Letters.{letters_there}
use Rattle.field_laws.proofs.laws.letters_are_there.Goals as goal

pub returns : goal.returns
returns c = letters_there
