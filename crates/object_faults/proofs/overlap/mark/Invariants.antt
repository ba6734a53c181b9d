use Rattle.std.proofs.Common.{◌≡◌, ◌<◌, ◌≤◌, ◌⊎◌, ◌↔◌, ℕ, IsTrue, slice_index}
use Rattle.object_faults.proofs.overlap.mark.Given as goal

abbrev pub invariant-loop-index : goal.invariant-loop-index
invariant-loop-index l = record {
  had : IsTrue l.had ↔ ((k : ℕ) × (l.from ≤ k) × (k < l.index) × (slice_index l.initial.marks k ≡ l.mark));
  within : (k : ℕ) → l.from ≤ k → k < l.index → slice_index l.marks k ≡ l.mark;
  outside : (k : ℕ) → (k < l.from) ⊎ (l.index ≤ k) → slice_index l.marks k ≡ slice_index l.initial.marks k;
}
