use Rattle.loaded_bytes.proofs.Places.{places_own}
use Rattle.loaded_bytes.proofs.laws.places_are_own.Goals as goal

pub returns : goal.returns
returns c = places_own
