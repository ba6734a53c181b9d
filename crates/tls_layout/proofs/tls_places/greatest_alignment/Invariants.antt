use Rattle.std.proofs.Common.{◌≡◌, take}
use Rattle.std.specs.Prelude.{fold}
use Rattle.elf_records.specs.Alignments.{IsAlignment}
use Rattle.tls_layout.specs.Places.{next_alignment}
use Rattle.tls_layout.proofs.tls_places.greatest_alignment.Given as goal

abbrev pub invariant-loop-section : goal.invariant-loop-section
invariant-loop-section l = record {
  greatest : l.greatest ≡ fold next_alignment 1 (take l.section-index l.sections);
  power : IsAlignment l.greatest;
}
