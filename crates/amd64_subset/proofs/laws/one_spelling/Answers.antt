-- Two spellings that begin one list are the same.
use Rattle.amd64_subset.proofs.FieldLaws.{one_spelling_lem}
use Rattle.amd64_subset.proofs.laws.one_spelling.Goals as goal

pub returns : goal.returns
returns c = one_spelling_lem
