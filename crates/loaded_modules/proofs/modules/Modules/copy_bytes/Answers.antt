use Rattle.std.proofs.Common.{◌∙◌, ◌+◌, List, ℕ, arith, length, ap}
use Rattle.std.specs.Prelude.{slice_range}
use Rattle.image_file.specs.Spelled.{lent_part}
use Rattle.loaded_modules.proofs.PartReads.{length_some, nothing_read, part_none, part_nowhere, part_some}
use Rattle.loaded_modules.proofs.modules.Modules.copy_bytes.Goals as goal

pub read_window-requires-clause-inside : goal.read_window-requires-clause-inside
read_window-requires-clause-inside c =
    let long = length_some c.args.self.now c.args.instance.now c.args.part c.in-Some.image.now
    (lent_part c.in-Some-part.part) c.in-Some.ensures c.in-Some-part.ensures in
    omega (arith, long, c.requires)

pub returns-in-Some-part-clause-value : goal.returns-in-Some-part-clause-value
returns-in-Some-part-clause-value c =
    c.read_window.ensures.shows
    ∙ ap (λ (b : List ℕ). slice_range b c.args.from (c.args.from + length c.args.into.now))
    (part_some c.args.self.now c.args.instance.now c.args.part c.in-Some.image.now
    (lent_part c.in-Some-part.part) c.in-Some.ensures c.in-Some-part.ensures)

pub returns-in_default-part-clause-value : goal.returns-in_default-part-clause-value
returns-in_default-part-clause-value c =
    nothing_read _ c.args.into.now c.args.from
    (part_none c.args.self.now c.args.instance.now c.args.part c.in-Some.image.now c.in-Some.ensures c.in_default-part.ensures) c.requires

pub returns-in_default-clause-value : goal.returns-in_default-clause-value
returns-in_default-clause-value c =
    nothing_read _ c.args.into.now c.args.from
    (part_nowhere c.args.self.now c.args.instance.now c.args.part c.in_default.ensures) c.requires
