use Rattle.loaded_words.proofs.Tables.{tables_hold}
use Rattle.loaded_words.proofs.laws.tables_hold.Goals as goal

pub returns : goal.returns
returns c = tables_hold
