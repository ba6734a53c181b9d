use Rattle.std.proofs.Common.{◌≡◌, ◌<◌, ℕ, [], length, map, slice_index_or}
use Rattle.tls_symbols.specs.Bindings.{object_at}
use Rattle.sequence_match.specs.Sites.{HaveSymbols}
use Rattle.symbol_tests.proofs.dynamic_images.all_sites.Given as goal

-- the sites of the objects so far have their symbols
abbrev pub invariant-loop-object : goal.invariant-loop-object
invariant-loop-object l =
    (length l.all.items ≡ l.object-index) ×
    ((o : ℕ) → o < l.object-index
    → HaveSymbols (object_at l.objects o) (slice_index_or (map (λ own. own.items) l.all.items) o []))
