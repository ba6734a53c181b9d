-- The first use that passes a test is the first relocation that does.
use Rattle.std.proofs.Common.{ℕ, List, Option, Some, None}
use Rattle.std.specs.Prelude.{MatchOption}
use Rattle.link_faults.specs.declared.place.Place.{Place}
use Rattle.tls_symbols.specs.Faults.{IsFirstCharged, NoneCharged, Test}
use Rattle.tls_symbols.specs.Searches.{NoneUsed, Passes}
use Rattle.tls_symbols.specs.Walks.{IsFirstUsed}

pub charged : (test : Test) (objects : List (List ℕ)) (told : Option Place)
    → MatchOption told (NoneUsed (Passes test) objects)
    (λ place. IsFirstUsed (Passes test) objects place.object place.section place.entry)
    → MatchOption told (NoneCharged test objects)
    (λ place. IsFirstCharged test objects place.object place.section place.entry)
charged test objects None none = record { nowhere = none }
charged test objects (Some place) first = record { here = first.0; nowhere_earlier = first.1 }
