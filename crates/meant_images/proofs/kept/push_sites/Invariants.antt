use Rattle.std.proofs.Common.{◌≡◌, ◌+◌, length}
use Rattle.meant_images.specs.Kept.{AreEntries, Grows, SequencesBelow}
use Rattle.meant_images.proofs.kept.push_sites.Given as goal

abbrev pub invariant-loop-site : goal.invariant-loop-site
invariant-loop-site l = record {
  grows : Grows l.fn.entries.items l.entries.items;
  entries : AreEntries l.entries.items;
  here : length l.entries.items ≡ l.first + l.site-index;
  each : SequencesBelow l.images l.inputs l.number l.entries.items l.own l.first l.site-index;
}
