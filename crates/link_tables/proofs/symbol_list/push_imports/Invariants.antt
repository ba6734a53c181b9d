use Rattle.std.proofs.Common.{◌≡◌, ◌++◌, ℕ, List, map, take}
use Rattle.elf_records.specs.declared.symbol.SymbolType.TheVariants.{Tls}
use Rattle.link_tables.specs.Dynamic.{foreign}
use Rattle.link_tables.specs.FaultLaws.{names_in, symbols_in}
use Rattle.link_tables.proofs.symbol_list.push_imports.Given as goal

abbrev pub invariant-loop-name : goal.invariant-loop-name
invariant-loop-name l =
    (symbols_in l.all.items
    ≡ symbols_in l.fn.all.items ++ map (λ (name : List ℕ). foreign Tls)
    (map (λ name. name.now) (take l.name-index l.names)))
    × (names_in l.all.items ≡ names_in l.fn.all.items ++ map (λ name. name.now) (take l.name-index l.names))
