use Rattle.std.proofs.Common.{◌≡◌, ◌<◌, ℕ, [], length, map, slice_index_or}
use Rattle.object_rules.specs.declared.fault.FaultKind.TheVariants.{Sequence, StrayCall}
use Rattle.sequence_match.specs.Faults.{AreSites, Nowhere}
use Rattle.tls_symbols.specs.Bindings.{object_at}
use Rattle.link_tests.proofs.cases.all_sites.Given as goal

-- the sites of the objects so far are theirs, and they have no stray call and no loose relocation
abbrev pub invariant-loop-object : goal.invariant-loop-object
invariant-loop-object l =
    (length l.all.items ≡ l.object-index) ×
    ((o : ℕ) → o < l.object-index
    → AreSites (object_at l.objects o) (slice_index_or (map (λ own. own.items) l.all.items) o []))
    × ((o : ℕ) → o < l.object-index
    → Nowhere Sequence (object_at l.objects o) × Nowhere StrayCall (object_at l.objects o))
