use Rattle.std.proofs.Common.{◌≡◌, ℕ, List, drop}
use Rattle.std.specs.Option.{option_or}
use Rattle.tls_symbols.specs.Numbers.{export_in, told}
use Rattle.tls_symbols.proofs.firsts.note_exports.Given as goal

-- with the names that are left, the table tells what it is to tell
abbrev pub invariant-loop-number : goal.invariant-loop-number
invariant-loop-number l = (name : List ℕ) →
    option_or (told l.numbers.names.keys l.table name) (export_in l.image name (drop l.number-index l.exports))
    ≡ option_or (told l.numbers.names.keys l.fn.table name) (export_in l.image name l.exports)
