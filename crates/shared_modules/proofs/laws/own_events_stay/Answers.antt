-- The law of specs/Stable.
use Rattle.shared_modules.specs.Stable.{own_events_stay}
use Rattle.shared_modules.proofs.laws.own_events_stay.Goals as goal

pub returns : goal.returns
returns c = own_events_stay
