use Rattle.std.proofs.Common.{◌≡◌, ℕ, List, drop, length}
use Rattle.std.specs.Option.{option_or}
use Rattle.tls_symbols.specs.Definitions.{first_from}
use Rattle.tls_symbols.specs.Numbers.{told}
use Rattle.tls_symbols.proofs.firsts.first_definitions.Given as goal

-- with the objects that are left, the table tells what it is to tell
abbrev pub invariant-loop-index : goal.invariant-loop-index
invariant-loop-index l =
    (length l.table.items ≡ length l.numbers.names.keys) ×
    ((name : List ℕ) → option_or (told l.numbers.names.keys l.table.items name)
    (first_from l.binding name l.index (drop l.index l.objects)) ≡ first_from l.binding name 0 l.objects)
