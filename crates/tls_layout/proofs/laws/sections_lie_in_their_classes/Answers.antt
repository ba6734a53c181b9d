use Rattle.tls_layout.proofs.LawsOfPlaces.{lie_in_classes}
use Rattle.tls_layout.proofs.laws.sections_lie_in_their_classes.Goals as goal

pub returns : goal.returns
returns c = lie_in_classes
