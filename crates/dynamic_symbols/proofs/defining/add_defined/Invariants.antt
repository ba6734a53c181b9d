use Rattle.std.proofs.Common.{◌≡◌, ◌-◌}
use Rattle.std.specs.List.{flat_map, range_with_len}
use Rattle.elf_object.specs.Parts.{symbol_count}
use Rattle.dynamic_symbols.specs.Found.{names_of, IsBound, with_names}
use Rattle.dynamic_symbols.specs.Names.{defined_at, defined_in}
use Rattle.dynamic_symbols.proofs.defining.add_defined.Given as goal

-- with those of the symbols that are left, the names are those that are wanted; each has what it binds to
abbrev pub invariant-loop-symbol : goal.invariant-loop-symbol
invariant-loop-symbol l =
    (with_names (names_of l.found)
    (flat_map (defined_at l.object) (range_with_len l.symbol (symbol_count l.object - l.symbol)))
    ≡ with_names (names_of l.fn.found) (defined_in l.object)) ×
    IsBound l.bindings.objects l.found
