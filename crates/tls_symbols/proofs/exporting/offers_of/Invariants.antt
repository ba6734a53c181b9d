use Rattle.std.proofs.Common.{◌≡◌, ◌++◌, drop, map}
use Rattle.std.specs.List.{All}
use Rattle.tls_symbols.specs.Offers.{offered_from, IsOffer}
use Rattle.tls_symbols.proofs.exporting.offers_of.Given as goal

-- with those of the objects that are left, the offers are those that are wanted
abbrev pub invariant-loop-index : goal.invariant-loop-index
invariant-loop-index l = record {
  found : map (λ offer. offer.found) l.offers.items ++ offered_from l.index (drop l.index l.objects)
      ≡ offered_from 0 l.objects;
  numbered : All (IsOffer l.names.keys l.objects) l.offers.items;
}
