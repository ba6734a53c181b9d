use Rattle.std.proofs.Common.{◌≡◌, ℕ, Some, length}
use Rattle.std.specs.Prelude.{slice_get}
use Rattle.link_needs.specs.Linking.{Linking}
use Rattle.meant_images.specs.Images.{AreTables}
use Rattle.meant_images.specs.declared.images.Tables.{Tables}
use Rattle.meant_images.proofs.images.all_tables.Given as goal

abbrev pub invariant-loop-own : goal.invariant-loop-own
invariant-loop-own l = record {
  count : length l.all.items ≡ l.own-index;
  each : (i : ℕ) (own : Linking) (t : Tables) → slice_get l.images i ≡ Some own → slice_get l.all.items i ≡ Some t
      → AreTables l.images own t;
}
