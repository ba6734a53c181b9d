use Rattle.std.proofs.Common.{◌≡◌, ◌-◌}
use Rattle.std.specs.List.{find, range_with_len}
use Rattle.elf_object.specs.Parts.{symbol_count}
use Rattle.tls_symbols.specs.Faults.{is_duplicate}
use Rattle.tls_symbols.proofs.duplicates.first_duplicate_in.Given as goal

-- the symbols that are left decide
abbrev pub invariant-loop-symbol : goal.invariant-loop-symbol
invariant-loop-symbol l =
    find (is_duplicate l.names.objects.now l.index l.object)
    (range_with_len l.symbol (symbol_count l.object - l.symbol))
    ≡ find (is_duplicate l.names.objects.now l.index l.object) (range_with_len 1 (symbol_count l.object - 1))
