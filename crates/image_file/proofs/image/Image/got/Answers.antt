use Rattle.std.proofs.Common.{◌≡◌, ◌∙◌, length, sym, ap, arith}
use Rattle.image_faults.specs.Parts.{loads}
use Rattle.image_file.specs.Spelled.{part}
use Rattle.image_file.specs.Tabled.{length-tabled}
use Rattle.image_file.proofs.PartsLent.{some_below}
use Rattle.image_file.proofs.image.Image.got.Goals as goal

pub returns-clause-within : goal.returns-clause-within
returns-clause-within c =
    let b = c.self.inside.bytes.items in
    let count : loads b ≡ length c.args.self.now.parts = sym (length-tabled (part b) (loads b))
    ∙ ap (λ v. length v.parts) c.self.view_is in
    some_below c.self.inside.places.got (length c.args.self.now.parts)
    (λ n is. let below = c.self.invariant.1.got_in n is in omega arith)
