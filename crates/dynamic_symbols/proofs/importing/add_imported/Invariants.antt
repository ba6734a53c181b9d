use Rattle.std.proofs.Common.{◌≡◌, drop, map}
use Rattle.std.specs.List.{flat_map}
use Rattle.dynamic_symbols.specs.Names.{imported_at, imported_in}
use Rattle.dynamic_symbols.specs.Found.{with_names}
use Rattle.dynamic_symbols.proofs.importing.add_imported.Given as goal

-- with those of the sites that are left, the names are those that are wanted
abbrev pub invariant-loop-site : goal.invariant-loop-site
invariant-loop-site l =
    with_names (map (λ name. name.now) l.names.keys)
    (flat_map (imported_at l.bindings.objects l.bindings.startup l.index) (drop l.site-index l.sites))
    ≡ with_names (map (λ name. name.now) l.fn.names.keys)
    (imported_in l.bindings.objects l.bindings.startup l.index l.sites)
