-- What is lent is what stands in the lists of the image.
use Rattle.std.proofs.Common.{◌≡◌, ◌∙◌, ◌+◌, ◌<◌, ℕ, List, Option, Some, None, IfSome, refl, sym, ap, slice_range}
use Rattle.std.specs.List.{slice_get}
use Rattle.elf_records.specs.declared.program_header.Segment.{Segment}
use Rattle.image_faults.specs.Parts.{segment, loads}
use Rattle.image_file.specs.declared.part.PartClass.{PartClass}
use Rattle.image_file.specs.Spelled.{Part, class_numbered, part, spelled}
use Rattle.image_file.specs.Tabled.{tabled_at}

abbrev pub made : List ℕ → PartClass → Segment → Part
made b class s = record { class = class; address = s.vaddr; bytes = slice_range b s.offset (s.offset + s.filesz) }

pub part_lent : (b : List ℕ) (i : ℕ) (class : PartClass) (s : Segment) → class ≡ class_numbered s.flags
    → s ≡ segment b i → i < loads b
    → Some (made b class s) ≡ slice_get (spelled b).parts i
unfolding part
part_lent b i class s classed same h =
    ap (λ k. Some (made b k s)) classed
    ∙ ap (λ x. Some (made b (class_numbered x.flags) x)) same
    ∙ sym (tabled_at (part b) (loads b) i h)

-- what holds of the value of an option, where there is one
pub some_below : (o : Option ℕ) (m : ℕ) → ((n : ℕ) → o ≡ Some n → n < m) → IfSome o (λ n. n < m)
some_below None m h = tt
some_below (Some n) m h = h n refl
