use Rattle.std.proofs.Common.{◌≡◌, ◌-◌, ◌<◌, ◌++◌, ℕ, List, length, map}
use Rattle.std.specs.List.{flat_map, range_with_len, All}
use Rattle.elf_object.specs.Parts.{symbol_count}
use Rattle.tls_symbols.specs.Bindings.{object_at}
use Rattle.tls_symbols.specs.Numbers.{Grows}
use Rattle.tls_symbols.specs.Offers.{offered_at, offered_in, IsOffer}
use Rattle.tls_symbols.proofs.exporting.push_offers.Given as goal

-- with those of the symbols that are left, the offers are those that are wanted
abbrev pub invariant-loop-symbol : goal.invariant-loop-symbol
invariant-loop-symbol l = record {
  grows : Grows l.fn.names.keys l.names.keys;
  found :
      map (λ offer. offer.found) l.offers.items
      ++ flat_map (offered_at l.index l.object) (range_with_len l.symbol (symbol_count l.object - l.symbol))
      ≡ map (λ offer. offer.found) l.fn.offers.items ++ offered_in l.index l.object;
  numbered : (objects : List (List ℕ)) → l.index < length objects → l.object ≡ object_at objects l.index
      → All (IsOffer l.fn.names.keys objects) l.fn.offers.items → All (IsOffer l.names.keys objects) l.offers.items;
}
