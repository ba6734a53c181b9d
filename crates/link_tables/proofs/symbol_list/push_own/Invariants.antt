use Rattle.std.proofs.Common.{◌≡◌, ◌++◌, map, take}
use Rattle.dynamic_symbols.specs.Names.{name_of}
use Rattle.link_tables.specs.Dynamic.{defined}
use Rattle.link_tables.specs.FaultLaws.{names_in, symbols_in}
use Rattle.link_tables.proofs.symbol_list.push_own.Given as goal

abbrev pub invariant-loop-found : goal.invariant-loop-found
invariant-loop-found l =
    (symbols_in l.all.items ≡ symbols_in l.fn.all.items ++ map (defined l.inputs) (take l.found-index l.own))
    × (names_in l.all.items ≡ names_in l.fn.all.items ++ map (name_of l.inputs.objects) (take l.found-index l.own))
