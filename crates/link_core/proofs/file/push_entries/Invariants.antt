use Rattle.std.proofs.Common.{◌≡◌, ◌++◌, drop}
use Rattle.link_core.specs.ByteLaws.{table_bytes}
use Rattle.link_core.proofs.file.push_entries.Given as goal

-- with the entries that are left it is there whole
abbrev pub invariant-loop-number : goal.invariant-loop-number
invariant-loop-number l =
    l.file.items ++ table_bytes (record l.got { entries = drop l.number l.got.entries })
    ≡ l.fn.file.items ++ table_bytes l.got
