-- The byte that is read is one of the part.
use Rattle.std.proofs.Common.{◌≡◌, ◌∙◌, ◌+◌, Some, None, true, ap, sym, slice_get, ◌==◌, false, ℕ}
use Rattle.image_file.specs.Spelled.{Part, part_seen}
use Rattle.loaded_modules.specs.LoaderLaws.{bias_of}
use Rattle.thread_space.specs.OfParts.{allows_fixed}
use Rattle.thread_space.specs.Places.{behind}
use Rattle.thread_space.proofs.PartBytes.{byte_read, none_read}
use Rattle.thread_space.proofs.space.ThreadSpace.byte_of_part.Goals as goal
use Rattle.std.specs.Option.{option_map_or}

pub returns-in-Some-behind_part : goal.returns-in-Some-behind_part
returns-in-Some-behind_part c =
    let part : Part = record
    { class = c.in-Some.part.class; address = c.in-Some.part.address; bytes = c.in-Some.part.bytes.now } in
    let is : slice_get c.args.image.now.parts c.args.number ≡ Some part = sym c.part.ensures
    ∙ ap part_seen c.in-Some.is in
    let allowed : allows_fixed c.args.access part.class
    (option_map_or (λ (own : ℕ). own == c.args.number) c.args.image.now.got false) ≡ true = cc in
    let begins : behind (part.address + bias_of c.args.self.now.vector.images c.args.instance.now) c.args.place
    ≡ Some c.in-Some-behind_part.at = cc in
    c.loaded_byte.ensures
    ∙ byte_read c.args.self.now.vector.images c.args.image.now c.args.instance.now c.args.number c.requires.there
    c.args.access c.args.place c.in-Some-behind_part.at part is allowed begins

pub returns-in-None : goal.returns-in-None
returns-in-None c =
    let part : Part = record
    { class = c.in-Some.part.class; address = c.in-Some.part.address; bytes = c.in-Some.part.bytes.now } in
    let is : slice_get c.args.image.now.parts c.args.number ≡ Some part = sym c.part.ensures
    ∙ ap part_seen c.in-Some.is in
    let begins : behind (part.address + bias_of c.args.self.now.vector.images c.args.instance.now) c.args.place ≡ None =
    cc in
    none_read c.args.self.now.vector.images c.args.image.now c.args.instance.now c.args.number c.requires.there
    c.args.access c.args.place part is begins
