-- The parts are those of the instance's image; where that is far, none is there.
use Rattle.std.proofs.Common.{◌≡◌, ◌∙◌, Some, None, Bor, sym, ap}
use Rattle.std.specs.Prelude.{option_map}
use Rattle.guest_operands.specs.Ranges.{byte_in}
use Rattle.image_file.specs.Spelled.{Spelled}
use Rattle.loaded_modules.specs.Images.{image_at}
use Rattle.thread_space.specs.OfParts.{is_near}
use Rattle.thread_space.proofs.Far.{far_byte}
use Rattle.thread_space.proofs.PartBytes.{of_image, of_no_image}
use Rattle.thread_space.proofs.space.ThreadSpace.part_byte.Goals as goal

pub returns-in_default : goal.returns-in_default
returns-in_default c =
    let none : image_at c.args.self.now.vector.images c.args.instance.now.image ≡ None =
    sym c.image_of.ensures ∙ ap (option_map (λ (image : Bor Spelled). image.now)) c.in_default.is in
    ap (λ ranges. byte_in c.args.access ranges c.args.place)
    (of_no_image c.args.self.now.vector.images c.args.instance.now none)

pub returns-then-not-is_near : goal.returns-then-not-is_near
returns-then-not-is_near c =
    let there : image_at c.args.self.now.vector.images c.args.instance.now.image ≡ Some c.in-Some.image.now =
    sym c.image_of.ensures ∙ ap (option_map (λ (image : Bor Spelled). image.now)) c.in-Some.is in
    far_byte c.args.self.now.vector.images c.in-Some.image.now c.args.instance.now there c.image_is_spelled.ensures c.args.place
    (ap (λ moved. is_near moved c.args.place) (sym c.bias.ensures.value) ∙ sym c.is_near.ensures
    ∙ c.if-not-is_near.true) c.args.access

pub returns : goal.returns
returns c =
    let there : image_at c.args.self.now.vector.images c.args.instance.now.image ≡ Some c.in-Some.image.now =
    sym c.image_of.ensures ∙ ap (option_map (λ (image : Bor Spelled). image.now)) c.in-Some.is in
    c.byte_of_image.ensures
    ∙ ap (λ ranges. byte_in c.args.access ranges c.args.place)
    (of_image c.args.self.now.vector.images c.args.instance.now c.in-Some.image.now there)
