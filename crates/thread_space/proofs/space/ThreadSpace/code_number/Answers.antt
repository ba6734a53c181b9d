-- The parts are those of the instance's image; where that is far, none is there.
use Rattle.std.proofs.Common.{◌≡◌, ◌∙◌, Some, Bor, sym, ap}
use Rattle.std.specs.Prelude.{option_map}
use Rattle.image_file.specs.Spelled.{Spelled}
use Rattle.loaded_modules.specs.Images.{image_at}
use Rattle.thread_space.specs.OfParts.{is_near}
use Rattle.thread_space.proofs.Far.{far_code}
use Rattle.thread_space.proofs.Fetched.{number_of_image, number_of_none}
use Rattle.thread_space.proofs.space.ThreadSpace.code_number.Goals as goal

pub returns-in_default : goal.returns-in_default
returns-in_default c =
    number_of_none c.args.self.now.vector.images c.args.instance.now c.args.place
    (sym c.image_of.ensures ∙ ap (option_map (λ (image : Bor Spelled). image.now)) c.in_default.is)

pub returns-then-not-is_near : goal.returns-then-not-is_near
returns-then-not-is_near c =
    let there : image_at c.args.self.now.vector.images c.args.instance.now.image ≡ Some c.in-Some.image.now =
    sym c.image_of.ensures ∙ ap (option_map (λ (image : Bor Spelled). image.now)) c.in-Some.is in
    far_code c.args.self.now.vector.images c.in-Some.image.now c.args.instance.now there c.image_is_spelled.ensures c.args.place
    (ap (λ moved. is_near moved c.args.place) (sym c.bias.ensures.value) ∙ sym c.is_near.ensures
    ∙ c.if-not-is_near.true)

pub returns : goal.returns
returns c =
    let there : image_at c.args.self.now.vector.images c.args.instance.now.image ≡ Some c.in-Some.image.now =
    sym c.image_of.ensures ∙ ap (option_map (λ (image : Bor Spelled). image.now)) c.in-Some.is in
    c.first_code.ensures ∙ number_of_image c.args.self.now.vector.images c.in-Some.image.now c.args.instance.now there c.args.place
