-- The image of linked objects holds the table.
use Rattle.std.proofs.Common.{◌≡◌, ◌<◌, ℕ, Some, length}
use Rattle.elf_object.specs.Lent.{section_class}
use Rattle.link_core.proofs.Few.{table_fits}
use Rattle.link_core.proofs.StandingPlaces.{lies_of}
use Rattle.link_needs.specs.Linking.{Linking, object}
use Rattle.object_faults.specs.declared.class.SectionClass.TheVariants.{Executable}
use Rattle.standing_sequences.specs.Bytes.{IsSectionAt}
use Rattle.standing_sequences.specs.Laws.{IsLinked, LinkedImagesHoldTheTable}
use Rattle.standing_sequences.proofs.Kept.{fields_stand, own_bytes_stand}
use Rattle.standing_sequences.proofs.Rewritten.{rewritten_forms_stand}
use Rattle.standing_sequences.proofs.Sequences.{by_the_table}

code_lies : (l : Linking) → IsLinked l → (o t : ℕ) → o < length l.objects
    → section_class (object l o) t ≡ Some Executable → (address : ℕ) × IsSectionAt l o t address
code_lies l linked o t there is =
    let limits = table_fits l linked.given linked.links.sound.limits in
    let lies = lies_of l linked.given limits o t Executable there is (λ h. cc) in
    (lies.0, record { there = there; address_is = lies.1.address_is })

pub images_hold : LinkedImagesHoldTheTable
images_hold l linked = record {
  placed = code_lies l linked;
  sequences = by_the_table l linked;
  forms = rewritten_forms_stand l linked;
  own = own_bytes_stand l linked;
  values = fields_stand l linked;
}
