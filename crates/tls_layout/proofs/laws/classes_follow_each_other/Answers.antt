use Rattle.tls_layout.proofs.LawsOfPlaces.{classes_follow}
use Rattle.tls_layout.proofs.laws.classes_follow_each_other.Goals as goal

pub returns : goal.returns
returns c = classes_follow
