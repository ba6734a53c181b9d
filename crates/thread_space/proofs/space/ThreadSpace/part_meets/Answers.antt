-- The part is one of the image.
use Rattle.std.proofs.Common.{◌≡◌, ◌∙◌, ◌+◌, Some, length, true, ap, refl, sym, slice_get}
use Rattle.image_file.specs.Spelled.{Part, part_seen}
use Rattle.loaded_modules.specs.LoaderLaws.{bias_of, loaded_part}
use Rattle.thread_space.specs.Fetching.{meets}
use Rattle.thread_space.proofs.Fetched.{meets_read}
use Rattle.thread_space.proofs.space.ThreadSpace.part_meets.Goals as goal
use Rattle.image_names.specs.Functions.{is_code}

pub returns : goal.returns
returns c =
    let part : Part = record
    { class = c.in-Some.part.class; address = c.in-Some.part.address; bytes = c.in-Some.part.bytes.now } in
    let is : slice_get c.args.image.now.parts c.args.number ≡ Some part = sym c.part.ensures
    ∙ ap part_seen c.in-Some.is in
    let code : is_code part.class ≡ true = cc in
    let told : c.meets.result ≡ meets (part.address + bias_of c.args.self.now.vector.images c.args.instance.now)
    (length (loaded_part c.args.self.now.vector.images c.args.instance.now c.args.number)) c.args.place =
    c.meets.ensures ∙ rw (c.bias.ensures.value, c.part_size-size.ensures) refl
    in
    told ∙ meets_read c.args.self.now.vector.images c.args.image.now c.args.instance.now c.requires.there c.args.number c.args.place part is code
