use Rattle.std.proofs.Common.{◌∙◌, ℕ, sym, subst, arith}
use Rattle.object_faults.specs.Faults.{Stands}
use Rattle.object_rules.specs.Kinds.{of_symbol}
use Rattle.object_faults.proofs.Order.{at_symbol, none_more, first_of}
use Rattle.object_faults.proofs.scan.ask_symbols.Goals as goal

pub returns-then-section-eq0 : goal.returns-then-section-eq0
returns-then-section-eq0 c =
    let b = c.args.tables.now.bytes.now in
    none_more (of_symbol c.args.fault) b c.requires
    (λ s e w.
    let within = at_symbol c.args.fault b s e w in
    omega (arith, within.0, within.1, c.args.tables.now.symbols_are.table_is))

pub returns-in-Some : goal.returns-in-Some
returns-in-Some c =
    let b = c.args.tables.now.bytes.now in
    let table = c.args.tables.now.symbols.table in
    rw (c.fault_at.ensures, c.kind.ensures)
    (first_of (of_symbol c.args.fault) b table c.in-Some.entry c.requires c.in-Some.ensures.0.1
    (λ t h f w.
    let within = at_symbol c.args.fault b t f w in
    omega (arith, within.1, c.args.tables.now.symbols_are.table_is))
    (λ f h w.
    let within = at_symbol c.args.fault b table f w in
    c.in-Some.ensures.1 f h (within.2, w)))

pub returns-in-None : goal.returns-in-None
returns-in-None c =
    let b = c.args.tables.now.bytes.now in
    none_more (of_symbol c.args.fault) b c.requires
    (λ s e w.
    let within = at_symbol c.args.fault b s e w in
    let P : ℕ → Type 0 = λ x. Stands (of_symbol c.args.fault) b x e in
    c.in-None.ensures e (within.2, subst P (within.1 ∙ sym c.args.tables.now.symbols_are.table_is) w))
