use Rattle.std.proofs.Common.{◌≡◌, ◌+◌, ◌++◌, drop}
use Rattle.got_pairs.specs.Needs.{total_size}
use Rattle.link_tables.specs.Dynamic.{got_relocations}
use Rattle.link_needs.specs.Needs.{entries, got_size, got_start}
use Rattle.link_tables.proofs.RelocationListLemmas.{left}
use Rattle.link_tables.proofs.relocation_list.push_got.Given as goal

abbrev pub invariant-loop-number : goal.invariant-loop-number
invariant-loop-number l =
    (l.all.items ++ left l.tables l.place l.number ≡ l.fn.all.items ++ got_relocations l.tables)
    × (l.place + total_size (drop l.number (entries l.tables)) ≡ got_start l.tables + got_size l.tables)
