use Rattle.std.proofs.Common.{◌≡◌, ◌++◌, take}
use Rattle.std.specs.List.{flat_map}
use Rattle.elf_records.specs.Records.{symbol_bytes}
use Rattle.object_builder.proofs.put.put_symbols.Given as goal

abbrev pub invariant-loop-symbol : goal.invariant-loop-symbol
invariant-loop-symbol l = l.bytes.items ≡ l.initial.bytes.items ++ flat_map symbol_bytes (take l.symbol-index l.symbols)
