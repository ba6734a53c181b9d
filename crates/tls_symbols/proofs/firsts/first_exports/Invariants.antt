use Rattle.std.proofs.Common.{◌≡◌, ◌+◌, ℕ, List, drop, length}
use Rattle.std.specs.Option.{option_or}
use Rattle.tls_symbols.specs.Bindings.{first_export}
use Rattle.tls_symbols.specs.Numbers.{told}
use Rattle.tls_symbols.proofs.firsts.first_exports.Given as goal

-- with the images that are left, the table tells what it is to tell
abbrev pub invariant-loop-index : goal.invariant-loop-index
invariant-loop-index l =
    (length l.table.items ≡ length l.numbers.names.keys) ×
    ((name : List ℕ) → option_or (told l.numbers.names.keys l.table.items name)
    (first_export name (l.index + 1) (drop l.index l.startup)) ≡ first_export name 1 l.startup)
