use Rattle.std.proofs.Common.{◌∙◌, Some, sym, ap, arith}
use Rattle.image_faults.specs.Array.{symbol_count}
use Rattle.image_file.specs.Spelled.{name}
use Rattle.image_file.specs.Tabled.{tabled_at, tabled_past}
use Rattle.image_file.proofs.lent.name_in.Goals as goal

pub returns-then-tables-number : goal.returns-then-tables-number
returns-then-tables-number c =
    let b = c.args.tables.now.bytes.now in
    sym (tabled_past (name b) (symbol_count b) c.args.number (omega (arith, c.args.tables.now.are.symbol_count_is)))

pub returns : goal.returns
returns c =
    let b = c.args.tables.now.bytes.now in
    ap Some c.text_of.ensures
    ∙ sym (tabled_at (name b) (symbol_count b) c.args.number (omega (arith, c.args.tables.now.are.symbol_count_is)))
