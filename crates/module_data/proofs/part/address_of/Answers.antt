use Rattle.std.proofs.Common.{sym}
use Rattle.module_data.proofs.Low.{part_low}
use Rattle.module_data.proofs.part.address_of.Goals as goal

pub returns-clause-low : goal.returns-clause-low
returns-clause-low c =
    part_low c.args.image.now c.image_is_spelled.ensures c.args.part _ (sym c.in_ok-part.ensures)
