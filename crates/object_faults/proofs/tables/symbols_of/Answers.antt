use Rattle.std.proofs.Common.{◌/◌, ◌<◌, ◌∙◌, sym, ap, arith}
use Rattle.object_faults.specs.Searches.{count_of_table}
use Rattle.object_faults.proofs.Parts.{table_inside}
use Rattle.object_faults.proofs.tables.symbols_of.Goals as goal

pub returns : goal.returns
returns c =
    let some : 0 < c.symbol_table-table.result = omega arith in
    record {
      table_is = c.symbol_table-table.ensures.first;
      table_in = (c.symbol_table-table.ensures.found some).0.1;
      at_is = λ _. ap (λ h. h.offset) c.section-header.ensures;
      count_is = ap (λ h. h.size / 24) c.section-header.ensures
          ∙ sym (count_of_table c.args.headers.now.bytes.now c.symbol_table-table.result c.symbol_table-table.ensures.first some);
      inside = table_inside c.args.headers.now.bytes.now c.symbol_table-table.result c.section-header.result c.section-header.ensures c.requires (c.symbol_table-table.ensures.found some);
      names_end_is = λ _. rw (← c.section-header.ensures, ← c.from.ensures) c.strings_end.ensures;
    }
