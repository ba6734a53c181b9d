use Rattle.std.proofs.Common.{◌∙◌, sym, arith}
use Rattle.object_rules.specs.declared.fault.FaultKind.TheVariants.{SymbolTable}
use Rattle.object_faults.specs.Faults.{IsBadTable}
use Rattle.object_faults.proofs.Order.{none_more}
use Rattle.object_faults.proofs.SymbolTables.{no_table, is_table_of, bad_table, bad_symbol, second_table, tables_fine}
use Rattle.object_faults.proofs.symbols.ask_symbol_table.Goals as goal

pub returns-then-section-eq0 : goal.returns-then-section-eq0
returns-then-section-eq0 c =
    let b = c.args.tables.now.bytes.now in
    none_more SymbolTable b c.requires (no_table b (sym c.args.tables.now.symbols_are.table_is ∙ c.if-section-eq0.true))

pub is_bad_table-requires : goal.is_bad_table-requires
is_bad_table-requires c =
    is_table_of c.args.tables.now.bytes.now c.args.tables.now.symbols.table c.args.tables.now.symbols_are.table_is
    (omega arith)

pub returns-then-is_bad_table : goal.returns-then-is_bad_table
returns-then-is_bad_table c =
    let b = c.args.tables.now.bytes.now in
    let t = c.args.tables.now.symbols.table in
    let same = c.args.tables.now.symbols_are.table_is in
    rw c.fault_at.ensures
    (bad_table b t same c.requires (is_table_of b t same (omega arith))
    (c.is_bad_table.ensures.0 c.if-is_bad_table.true))

pub returns-in-Some : goal.returns-in-Some
returns-in-Some c =
    let b = c.args.tables.now.bytes.now in
    let t = c.args.tables.now.symbols.table in
    let fine : IsBadTable b t → ⊥ = λ bad. let wrong = c.if-is_bad_table.ensures.1 bad in cc in
    rw c.fault_at-in-Some.ensures
    (bad_symbol b t c.in-Some.entry c.args.tables.now.symbols_are.table_is c.requires fine c.in-Some.ensures.0.1 c.in-Some.ensures.1)

pub returns-in-Some-second_table : goal.returns-in-Some-second_table
returns-in-Some-second_table c =
    let b = c.args.tables.now.bytes.now in
    let t = c.args.tables.now.symbols.table in
    let fine : IsBadTable b t → ⊥ = λ bad. let wrong = c.if-is_bad_table.ensures.1 bad in cc in
    rw c.fault_at-in-Some-second_table.ensures
    (second_table b t c.in-Some-second_table.section c.args.tables.now.symbols_are.table_is c.requires fine c.in_default.ensures
    c.in-Some-second_table.ensures.0 c.in-Some-second_table.ensures.1)

pub returns-in-None : goal.returns-in-None
returns-in-None c =
    let b = c.args.tables.now.bytes.now in
    let t = c.args.tables.now.symbols.table in
    let fine : IsBadTable b t → ⊥ = λ bad. let wrong = c.if-is_bad_table.ensures.1 bad in cc in
    none_more SymbolTable b c.requires
    (tables_fine b t c.args.tables.now.symbols_are.table_is fine c.in_default.ensures c.in-None.ensures)
