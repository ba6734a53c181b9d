-- The bytes are those of the part.
use Rattle.std.proofs.Common.{◌≡◌, ◌∙◌, ◌+◌, ◌≤◌, Some, length, ap, sym, slice_get, arith}
use Rattle.image_file.specs.Spelled.{Part, part_seen}
use Rattle.loaded_modules.specs.LoaderLaws.{bias_of, loaded_part}
use Rattle.thread_space.specs.Places.{behind}
use Rattle.thread_space.proofs.Fetched.{copies_part}
use Rattle.thread_space.proofs.space.ThreadSpace.copy_part.Goals as goal

pub returns : goal.returns
returns c = λ yes.
    let part : Part = record
    { class = c.in-Some.part.class; address = c.in-Some.part.address; bytes = c.in-Some.part.bytes.now } in
    let is : slice_get c.args.image.now.parts c.args.number ≡ Some part = sym c.part.ensures
    ∙ ap part_seen c.in-Some.is in
    let begins : behind (part.address + bias_of c.args.self.now.vector.images c.args.instance.now) c.args.place
    ≡ Some c.in-Some-behind_part.at = cc in
    let room : c.in-Some-behind_part.at
    + 15 ≤ length (loaded_part c.args.self.now.vector.images c.args.instance.now c.args.number) =
    omega (arith, c.part_size-size.ensures, c.if-at-size.false, c.if-size-lt-WINDOW.false)
    in
    copies_part c.args.self.now.vector.images c.args.image.now c.args.instance.now c.requires.there c.args.number c.args.place
    c.in-Some-behind_part.at part c.copy_loaded.new.into is begins room c.copy_loaded.ensures
