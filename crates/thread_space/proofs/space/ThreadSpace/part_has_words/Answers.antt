-- The words lie in the part.
use Rattle.std.proofs.Common.{◌≡◌, ◌∙◌, ◌+◌, ◌^◌, ◌<◌, ◌≤◌, length, Some, None, true, ap, sym, slice_get, arith}
use Rattle.std.specs.Prelude.{nat_le}
use Rattle.image_file.specs.Spelled.{Part, part_seen, is_writable}
use Rattle.loaded_modules.specs.LoaderLaws.{bias_of, loaded_part}
use Rattle.thread_space.specs.Places.{behind}
use Rattle.std.proofs.lemmas.Bool.{leb-true}
use Rattle.thread_space.proofs.LowParts.{words_low}
use Rattle.thread_space.proofs.PartBytes.{no_words_read, words_read}
use Rattle.thread_space.proofs.space.ThreadSpace.part_has_words.Goals as goal

pub returns-in-Some-behind_part-clause-found : goal.returns-in-Some-behind_part-clause-found
returns-in-Some-behind_part-clause-found c =
    let part : Part = record
    { class = c.in-Some.part.class; address = c.in-Some.part.address; bytes = c.in-Some.part.bytes.now } in
    let is : slice_get c.args.image.now.parts c.args.number ≡ Some part = sym c.part.ensures
    ∙ ap part_seen c.in-Some.is in
    let written : is_writable part.class ≡ true = cc in
    let begins : behind (part.address + bias_of c.args.self.now.vector.images c.args.instance.now) c.args.address
    ≡ Some c.in-Some-behind_part.at = cc in
    c.has_room.ensures ∙ ap (nat_le (c.in-Some-behind_part.at + 16)) c.part_size.ensures
    ∙ words_read c.args.self.now.vector.images c.args.image.now c.args.instance.now c.args.number c.requires.there
    c.args.address c.in-Some-behind_part.at part is written begins

pub returns-in-None-clause-found : goal.returns-in-None-clause-found
returns-in-None-clause-found c =
    let part : Part = record
    { class = c.in-Some.part.class; address = c.in-Some.part.address; bytes = c.in-Some.part.bytes.now } in
    let is : slice_get c.args.image.now.parts c.args.number ≡ Some part = sym c.part.ensures
    ∙ ap part_seen c.in-Some.is in
    let begins : behind (part.address + bias_of c.args.self.now.vector.images c.args.instance.now) c.args.address
    ≡ None = cc in
    no_words_read c.args.self.now.vector.images c.args.image.now c.args.instance.now c.args.number c.requires.there
    c.args.address part is begins

pub returns-in-Some-behind_part-clause-low : goal.returns-in-Some-behind_part-clause-low
returns-in-Some-behind_part-clause-low c = λ yes.
    let part : Part = record
    { class = c.in-Some.part.class; address = c.in-Some.part.address; bytes = c.in-Some.part.bytes.now } in
    let is : slice_get c.args.image.now.parts c.args.number ≡ Some part = sym c.part.ensures
    ∙ ap part_seen c.in-Some.is in
    let begins : behind (part.address + bias_of c.args.self.now.vector.images c.args.instance.now) c.args.address
    ≡ Some c.in-Some-behind_part.at = cc in
    let room : c.in-Some-behind_part.at
    + 16 ≤ length (loaded_part c.args.self.now.vector.images c.args.instance.now c.args.number) =
    leb-true _ _ (ap (nat_le (c.in-Some-behind_part.at + 16)) (sym c.part_size.ensures) ∙ sym c.has_room.ensures ∙ yes)
    in
    let moved : bias_of c.args.self.now.vector.images c.args.instance.now < 2 ^ 59 =
    omega (arith, c.bias.ensures.value, c.bias.ensures.low) in
    words_low c.args.self.now.vector.images c.args.image.now c.args.instance.now c.args.number part c.args.address c.in-Some-behind_part.at
    c.image_is_spelled.ensures c.requires.there is moved begins room
