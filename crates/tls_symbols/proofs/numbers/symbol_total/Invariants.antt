use Rattle.std.proofs.Common.{◌≡◌, ◌+◌, ◌-◌, ◌^◌, ◌≤◌, drop, min}
use Rattle.std.specs.Prelude.{sum_by}
use Rattle.elf_object.specs.Parts.{symbol_count}
use Rattle.tls_symbols.proofs.numbers.symbol_total.Given as goal

-- with the objects that are left, the sum is the one that is wanted
abbrev pub invariant-loop-object : goal.invariant-loop-object
invariant-loop-object l =
    (min (l.total + sum_by symbol_count (drop l.object-index l.objects)) (2 ^ 64 - 1)
    ≡ min (sum_by symbol_count l.objects) (2 ^ 64 - 1))
    × (l.total ≤ 2 ^ 64 - 1)
