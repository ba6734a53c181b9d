use Rattle.std.proofs.Common.{◌≡◌, ℕ, ◌<◌, All, length, slice_index, take}
use Rattle.tls_layout.specs.Sections.{all_sections, section_counts, IsOrdinary}
use Rattle.tls_layout.proofs.section_list.list_sections.Given as goal

abbrev pub invariant-loop-object : goal.invariant-loop-object
invariant-loop-object l = record {
  sections_are : l.sections.items ≡ all_sections (take l.object-index l.objects);
  counts_are : l.counts.items ≡ section_counts (take l.object-index l.objects);
  ordinary : All IsOrdinary l.sections.items;
  len : length l.firsts.items ≡ l.object-index;
  firsts_are : (o : ℕ) → o < l.object-index → slice_index l.firsts.items o ≡ length (all_sections (take o l.objects));
}
