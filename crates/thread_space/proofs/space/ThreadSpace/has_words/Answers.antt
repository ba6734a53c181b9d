-- The parts are those of the instance's image.
use Rattle.std.proofs.Common.{◌≡◌, ◌∙◌, Some, None, Bor, sym, ap}
use Rattle.std.specs.Prelude.{option_map}
use Rattle.std.specs.List.{list_any}
use Rattle.image_file.specs.Spelled.{Spelled}
use Rattle.loaded_modules.specs.Images.{image_at}
use Rattle.thread_blocks.specs.RunTime.{has_words}
use Rattle.thread_space.proofs.PartBytes.{tables_of_image, tables_of_no_image}
use Rattle.thread_space.proofs.space.ThreadSpace.has_words.Goals as goal

pub returns-in-Some-clause-found : goal.returns-in-Some-clause-found
returns-in-Some-clause-found c =
    let there : image_at c.args.self.now.vector.images c.args.instance.now.image ≡ Some c.in-Some.image.now =
    sym c.image_of.ensures ∙ ap (option_map (λ (image : Bor Spelled). image.now)) c.in-Some.is in
    c.image_has_words.ensures.found
    ∙ ap (list_any (has_words c.args.address))
    (tables_of_image c.args.self.now.vector.images c.args.instance.now c.in-Some.image.now there)

pub returns-in-None-clause-found : goal.returns-in-None-clause-found
returns-in-None-clause-found c =
    let none : image_at c.args.self.now.vector.images c.args.instance.now.image ≡ None =
    sym c.image_of.ensures ∙ ap (option_map (λ (image : Bor Spelled). image.now)) c.in-None.is in
    ap (list_any (has_words c.args.address)) (tables_of_no_image c.args.self.now.vector.images c.args.instance.now none)
