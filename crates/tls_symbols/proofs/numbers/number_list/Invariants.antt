use Rattle.std.proofs.Common.{◌≡◌, ◌<◌, ℕ, [], length, map, slice_index, slice_index_or}
use Rattle.tls_symbols.specs.Numbers.{Grows, IsNumberOf}
use Rattle.tls_symbols.proofs.numbers.number_list.Given as goal

-- the names so far have their numbers
abbrev pub invariant-loop-name : goal.invariant-loop-name
invariant-loop-name l =
    (length l.numbers.items ≡ l.name-index) ×
    ((j : ℕ) → j < l.name-index
    → IsNumberOf l.names.keys (slice_index_or (map (λ name. name.now) l.listed) j [])
    (slice_index l.numbers.items j)) ×
    Grows l.fn.names.keys l.names.keys
