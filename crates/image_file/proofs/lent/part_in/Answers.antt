use Rattle.std.proofs.Common.{sym, arith}
use Rattle.image_faults.specs.Parts.{loads}
use Rattle.image_file.specs.Spelled.{part}
use Rattle.image_file.specs.Tabled.{tabled_past}
use Rattle.image_file.proofs.PartsLent.{part_lent}
use Rattle.image_file.proofs.lent.part_in.Goals as goal

pub returns-then-tables-number : goal.returns-then-tables-number
returns-then-tables-number c =
    let b = c.args.tables.now.bytes.now in
    sym (tabled_past (part b) (loads b) c.args.number (omega (arith, c.args.tables.now.are.loads_are)))

pub returns : goal.returns
returns c =
    part_lent c.args.tables.now.bytes.now c.args.number c.class_numbered.result c.load-load.result c.class_numbered.ensures c.load-load.ensures.segment
    (omega (arith, c.args.tables.now.are.loads_are))
