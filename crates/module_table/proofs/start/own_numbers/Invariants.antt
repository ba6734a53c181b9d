-- The numbers so far.
use Rattle.std.proofs.Common.{◌≡◌, ℕ, ◌<◌, vec_len}
use Rattle.std.specs.Prelude.{slice_index}
use Rattle.module_table.proofs.start.own_numbers.Given as goal

abbrev pub invariant-loop-image : goal.invariant-loop-image
invariant-loop-image l = (vec_len l.slots ≡ l.image) × ((k : ℕ) → k < l.image → slice_index l.slots.items k ≡ k)
