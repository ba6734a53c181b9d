use Rattle.std.proofs.Common.{◌≡◌, ℕ, ◌+◌, ◌*◌, ◌^◌, ◌<◌, ◌≤◌, length, slice_index}
use Rattle.tls_layout.specs.Statics.{tls_offset}
use Rattle.tls_layout.proofs.statics.static_offsets.Given as goal

abbrev pub invariant-loop-tls : goal.invariant-loop-tls
invariant-loop-tls l = record {
  len : length l.offsets.items ≡ l.tls-index;
  last : l.last ≡ tls_offset l.sizes l.tls-index;
  small : l.last ≤ l.tls-index * 2 ^ 21;
  so_far : (m : ℕ) → m < l.tls-index → slice_index l.offsets.items m ≡ tls_offset l.sizes (m + 1);
}
