use Rattle.std.proofs.Common.{◌≡◌, [], drop, map}
use Rattle.dynamic_symbols.specs.Found.{with_names}
use Rattle.dynamic_symbols.proofs.importing.imports.Given as goal
use Rattle.dynamic_symbols.specs.Names.{imported_in}
use Rattle.tls_symbols.specs.Definitions.{flat_map_from}

-- with those of the objects that are left, the names are those that are wanted
abbrev pub invariant-loop-index : goal.invariant-loop-index
invariant-loop-index l =
    with_names (map (λ name. name.now) l.names.keys)
    (flat_map_from (imported_in l.bindings.objects l.bindings.startup) l.index
    (map (λ own. own.items) (drop l.index l.sites)))
    ≡ with_names [] (flat_map_from (imported_in l.bindings.objects l.bindings.startup) 0
    (map (λ own. own.items) l.sites))
