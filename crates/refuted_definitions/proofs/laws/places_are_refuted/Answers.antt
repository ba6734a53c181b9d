use Rattle.refuted_definitions.proofs.PlaceCases.{places_refuted}
use Rattle.refuted_definitions.proofs.laws.places_are_refuted.Goals as goal

pub returns : goal.returns
returns c = places_refuted
