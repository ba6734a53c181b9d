use Rattle.std.proofs.Common.{◌≡◌, ◌<◌, ◌-◌, ℕ, List, None, length}
use Rattle.std.specs.List.{find, range_with_len}
use Rattle.std.specs.Option.{option_or}
use Rattle.elf_object.specs.Parts.{symbol_count}
use Rattle.tls_symbols.specs.Definitions.{defines, first_in, found_or}
use Rattle.tls_symbols.specs.Numbers.{number_of, told}
use Rattle.tls_symbols.proofs.firsts.note_among.Given as goal

-- with the symbols that are left, the table tells what it is to tell of the names
abbrev pub invariant-loop-symbol : goal.invariant-loop-symbol
invariant-loop-symbol l = (name : List ℕ) → number_of l.names.keys name < length l.names.keys →
    option_or (told l.names.keys l.table name)
    (found_or l.index (find (defines l.object l.binding name)
    (range_with_len l.symbol (symbol_count l.object - l.symbol))) None)
    ≡ option_or (told l.names.keys l.fn.table name) (found_or l.index (first_in l.binding name l.object) None)
