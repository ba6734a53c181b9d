use Rattle.std.proofs.Common.{◌≡◌, ◌<◌, ℕ, length, slice_index_or}
use Rattle.tls_symbols.specs.declared.numbers.KnownSymbol.{KnownSymbol}
use Rattle.tls_symbols.specs.Numbers.{Grows, IsNumbered}
use Rattle.tls_symbols.proofs.numbers.number_symbols.Given as goal

-- the symbols so far have their numbers
abbrev pub invariant-loop-symbol : goal.invariant-loop-symbol
invariant-loop-symbol l =
    (length l.numbers.items ≡ l.symbol) ×
    ((e : ℕ) (d : KnownSymbol) → e < l.symbol → IsNumbered l.names.keys l.object e (slice_index_or l.numbers.items e d))
    ×
    Grows l.fn.names.keys l.names.keys
