use Rattle.std.proofs.Common.{ap, length}
use Rattle.image_file.specs.Spelled.{lent_part}
use Rattle.loaded_modules.proofs.PartReads.{length_some, part_none, part_nowhere}
use Rattle.loaded_modules.proofs.modules.Modules.part_size.Goals as goal

pub returns-in_default : goal.returns-in_default
returns-in_default c = ap length (part_nowhere c.args.self.now c.args.instance.now c.args.part c.in_default.ensures)

pub returns-in-Some-part : goal.returns-in-Some-part
returns-in-Some-part c =
    length_some c.args.self.now c.args.instance.now c.args.part c.in-Some.image.now
    (lent_part c.in-Some-part.part) c.in-Some.ensures c.in-Some-part.ensures

pub returns-in-None : goal.returns-in-None
returns-in-None c =
    ap length (part_none c.args.self.now c.args.instance.now c.args.part c.in-Some.image.now c.in-Some.ensures c.in-None.ensures)
