use Rattle.std.proofs.Common.{◌≡◌, ◌++◌, drop, map}
use Rattle.std.specs.List.{flat_map}
use Rattle.tls_symbols.specs.Bindings.{exported_names}
use Rattle.tls_symbols.proofs.Exported.{bound_name}
use Rattle.tls_symbols.proofs.exporting.exports.Given as goal

-- with those of the offers that are left, the names are those that are wanted
abbrev pub invariant-loop-offer : goal.invariant-loop-offer
invariant-loop-offer l =
    map (λ name. name.now) l.exported.items
    ++ flat_map (λ offer. bound_name l.objects offer.found) (drop l.offer-index l.offer-items)
    ≡ exported_names l.objects
