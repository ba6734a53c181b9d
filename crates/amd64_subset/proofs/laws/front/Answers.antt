-- An instruction depends on its own bytes.
use Rattle.amd64_subset.proofs.FieldLaws.{front_lem}
use Rattle.amd64_subset.proofs.laws.front.Goals as goal

pub returns : goal.returns
returns c = front_lem
