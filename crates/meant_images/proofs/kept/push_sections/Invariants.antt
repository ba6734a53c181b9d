use Rattle.std.proofs.Common.{◌≡◌, length}
use Rattle.meant_images.specs.Kept.{AreEntries, Grows, KeepsFields}
use Rattle.meant_images.proofs.kept.push_sections.Given as goal

abbrev pub invariant-loop-section : goal.invariant-loop-section
invariant-loop-section l = record {
  grows : Grows l.fn.entries.items l.entries.items;
  entries : AreEntries l.entries.items;
  here : length l.firsts.items ≡ l.section;
  fields : KeepsFields l.inputs l.number l.entries.items l.firsts.items l.section;
}
