use Rattle.std.proofs.Common.{◌∙◌, length, sym, ap}
use Rattle.image_faults.specs.Parts.{loads}
use Rattle.image_file.specs.Spelled.{part}
use Rattle.image_file.specs.Tabled.{length-tabled}
use Rattle.image_file.proofs.image.Image.part_count.Goals as goal

pub returns : goal.returns
returns c =
    let b = c.self.inside.bytes.items in
    c.self.invariant.1.loads_are ∙ sym (length-tabled (part b) (loads b)) ∙ ap (λ v. length v.parts) c.self.view_is
