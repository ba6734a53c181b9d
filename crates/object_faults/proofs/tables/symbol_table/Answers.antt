use Rattle.std.proofs.Common.{◌≡◌, refl, sym, arith}
use Rattle.object_faults.specs.Parts.{symbol_table}
use Rattle.object_faults.specs.Firsts.{first_below}
use Rattle.object_faults.specs.Searches.{no_table_more, table_found}
use Rattle.object_faults.proofs.tables.symbol_table.Goals as goal

pub loop-section-init : goal.loop-section-init
unfolding first_below
loop-section-init c = refl

pub returns-then-section-eq-SHT_SYMTAB-clause-first : goal.returns-then-section-eq-SHT_SYMTAB-clause-first
returns-then-section-eq-SHT_SYMTAB-clause-first c =
    sym (table_found c.args.headers.now.bytes.now c.loop-section.section (omega arith)
    (omega (arith, c.args.headers.now.count_is)) c.loop-section.invariant
    (rw (← c.section.ensures) c.if-section-eq-SHT_SYMTAB.true))

pub loop-section-preserved : goal.loop-section-preserved
loop-section-preserved c =
    no_table_more c.args.headers.now.bytes.now c.loop-section.section c.loop-section.invariant
    (rw (← c.section.ensures) c.if-section-eq-SHT_SYMTAB.false)

pub returns-clause-first : goal.returns-clause-first
unfolding symbol_table
returns-clause-first c =
    let all : c.loop-section.section ≡ c.args.headers.now.count = omega arith in
    rw (← c.args.headers.now.count_is, ← all) (sym c.loop-section.invariant)
