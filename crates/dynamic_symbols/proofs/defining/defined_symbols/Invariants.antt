use Rattle.std.proofs.Common.{◌≡◌, [], drop}
use Rattle.std.specs.List.{flat_map}
use Rattle.dynamic_symbols.specs.Found.{names_of, IsBound, with_names}
use Rattle.dynamic_symbols.specs.Names.{defined_in}
use Rattle.dynamic_symbols.proofs.defining.defined_symbols.Given as goal

-- with those of the objects that are left, the names are those that are wanted; each has what it binds to
abbrev pub invariant-loop-index : goal.invariant-loop-index
invariant-loop-index l =
    (with_names (names_of l.found) (flat_map defined_in (drop l.index l.objects))
    ≡ with_names [] (flat_map defined_in l.objects)) ×
    IsBound l.bindings.objects l.found
