-- What spells an instruction is read.
use Rattle.amd64_subset.proofs.Whole.{decoded_again}
use Rattle.amd64_subset.proofs.laws.spelled.Goals as goal

pub returns : goal.returns
returns c = λ bytes tail d spells. decoded_again bytes d tail spells
