use Rattle.std.proofs.Common.{◌≡◌, ◌+◌, ◌-◌, ◌^◌, ◌≤◌, drop, map, min}
use Rattle.std.specs.Prelude.{sum_by}
use Rattle.dynamic_symbols.specs.Names.{name_of, name_size, size_of}
use Rattle.dynamic_symbols.proofs.sizes.name_size.Given as goal

-- with what is left, the size is the one that is wanted
abbrev pub invariant-loop-found : goal.invariant-loop-found
invariant-loop-found l =
    (min (l.size + sum_by (λ found. size_of (name_of l.objects found)) (drop l.found-index l.symbols)) (2 ^ 64 - 1)
    ≡ min (sum_by (λ found. size_of (name_of l.objects found)) l.symbols) (2 ^ 64 - 1))
    × (l.size ≤ 2 ^ 64 - 1)

abbrev pub invariant-loop-name : goal.invariant-loop-name
invariant-loop-name l =
    (min (l.size + sum_by size_of (map (λ name. name.now) (drop l.name-index l.imports))) (2 ^ 64 - 1)
    ≡ min (name_size l.objects l.symbols (map (λ name. name.now) l.imports)) (2 ^ 64 - 1))
    × (l.size ≤ 2 ^ 64 - 1)
