use Rattle.std.proofs.Common.{◌∙◌, ℕ, length, sym, ap}
use Rattle.image_faults.specs.Array.{relocation_count}
use Rattle.image_faults.specs.Relocations.{rela}
use Rattle.image_file.specs.Spelled.{relocation_of}
use Rattle.image_file.specs.Tabled.{length-tabled}
use Rattle.image_file.proofs.image.Image.relocation_count.Goals as goal

pub returns : goal.returns
returns c =
    let b = c.self.inside.bytes.items in
    c.self.invariant.1.relocation_count_is
    ∙ sym (length-tabled (λ (k : ℕ). relocation_of (rela b k)) (relocation_count b))
    ∙ ap (λ v. length v.relocations) c.self.view_is
