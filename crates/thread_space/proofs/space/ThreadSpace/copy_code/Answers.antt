-- The bytes are what is fetched.
use Rattle.std.proofs.Common.{◌≡◌, ◌∙◌, Some, Bor, ap, sym, arith}
use Rattle.std.specs.Prelude.{option_map}
use Rattle.image_file.specs.Spelled.{Spelled}
use Rattle.loaded_modules.specs.Images.{image_at}
use Rattle.thread_space.proofs.Fetched.{fetched}
use Rattle.thread_space.proofs.space.ThreadSpace.copy_code.Goals as goal

pub returns : goal.returns
returns c = λ yes.
    let there : image_at c.args.self.now.vector.images c.in-Some.instance.image ≡ Some c.in-Some-image_of.image.now =
    sym c.image_of.ensures ∙ ap (option_map (λ (image : Bor Spelled). image.now)) c.in-Some-image_of.is in
    fetched c.args.self.now c.args.place c.in-Some-first_code.number c.in-Some.instance c.in-Some-image_of.image.now c.copy_part.new.into
    (omega (arith, c.if-place.false)) (sym c.code_at.ensures ∙ c.in-Some.is) there
    (sym c.first_code.ensures ∙ c.in-Some-first_code.is)
    (c.copy_part.ensures yes)
