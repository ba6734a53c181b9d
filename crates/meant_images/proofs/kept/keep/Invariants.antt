use Rattle.meant_images.specs.Kept.{AreEntries, KeepAll}
use Rattle.meant_images.proofs.kept.keep.Given as goal

abbrev pub invariant-loop-number : goal.invariant-loop-number
invariant-loop-number l = record {
  entries : AreEntries l.entries.items;
  keeps : KeepAll l.images l.inputs l.entries.items l.objects.items l.number;
}
