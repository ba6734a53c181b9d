use Rattle.std.proofs.Common.{◌≡◌, ◌<◌, ℕ, [], length, map, slice_index_or}
use Rattle.tls_symbols.specs.Bindings.{object_at}
use Rattle.tls_symbols.specs.Numbers.{Grows, AreNumbered}
use Rattle.tls_symbols.proofs.numbers.number_objects.Given as goal

-- the symbols of the objects so far have their numbers
abbrev pub invariant-loop-object : goal.invariant-loop-object
invariant-loop-object l =
    (length l.numbers.items ≡ l.object-index) ×
    ((o : ℕ) → o < l.object-index
    → AreNumbered l.names.keys (object_at l.objects o)
    (slice_index_or (map (λ own. own.items) l.numbers.items) o [])) ×
    Grows l.fn.names.keys l.names.keys
