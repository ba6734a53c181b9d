use Rattle.std.proofs.Common.{◌≡◌, ◌∙◌, List, ℕ, Option, ap, subst}
use Rattle.image_file.specs.declared.relocation.ImageRelocation.{ImageRelocation}
use Rattle.image_rules.specs.declared.places.FileKind.{FileKind}
use Rattle.loaded_modules.specs.declared.relocating.Target.{Target}
use Rattle.loaded_modules.specs.Loader.{relocation_bytes, with_written, written_bytes}
use Rattle.image_file.specs.Spelled.{lent_part}
use Rattle.loaded_modules.specs.Words.{with_numbered, words_bytes, IsWindow}
use Rattle.loaded_modules.proofs.parts.LoadedImage.relocate.Goals as goal

pub returns-in-Some-clause-shows : goal.returns-in-Some-clause-shows
unfolding relocation_bytes
returns-in-Some-clause-shows c = λ bytes same shows.
    let m = c.args.self.now.modules.now in
    let image = c.args.self.now.image.now in
    let x = c.args.self.now.instance.now in
    let part = lent_part c.args.part in
    let r = c.in-Some.relocation in
    let words : words_bytes c.words_of-words.result ≡ relocation_bytes m image x r =
    c.words_of-words.ensures
    ∙ ap (λ (kind : FileKind). written_bytes kind x c.target-target.result r.kind r.addend) c.kind.ensures
    ∙ ap (λ (t : Target). written_bytes image.kind x t r.kind r.addend) c.target-target.ensures in
    subst (λ (o : Option ImageRelocation). IsWindow
    (with_numbered m image x part bytes o) c.args.from c.relocate.new.window) c.in-Some.ensures.relocation
    (subst (λ (w : List ℕ). IsWindow (with_written part bytes r.place w) c.args.from c.relocate.new.window) words
    (c.relocate.ensures.shows bytes same shows))
