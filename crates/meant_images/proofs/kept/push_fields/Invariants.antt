use Rattle.std.proofs.Common.{◌≡◌, ◌+◌, length}
use Rattle.meant_images.specs.Kept.{AreEntries, FieldsBelow, Grows}
use Rattle.meant_images.proofs.kept.push_fields.Given as goal

abbrev pub invariant-loop-relocation : goal.invariant-loop-relocation
invariant-loop-relocation l = record {
  grows : Grows l.fn.entries.items l.entries.items;
  entries : AreEntries l.entries.items;
  here : length l.entries.items ≡ l.first + l.relocation-index;
  each : FieldsBelow l.inputs l.number l.entries.items l.relocation-items l.first l.relocation-index;
}
