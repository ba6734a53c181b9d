use Rattle.std.proofs.Common.{ℕ, below_more, arith}
use Rattle.object_faults.specs.Faults.{Stands}
use Rattle.object_rules.specs.Kinds.{of_reloc}
use Rattle.object_faults.proofs.Order.{at_reloc, none_more, first_of}
use Rattle.object_faults.proofs.scan.ask_relocs.Goals as goal

pub loop-section-init : goal.loop-section-init
loop-section-init c = λ s h e w. let within = at_reloc c.args.fault c.args.tables.now.bytes.now s e w in
    omega (arith, within.0.0.0)

pub loop-section-preserved : goal.loop-section-preserved
loop-section-preserved c =
    let P : ℕ → Type 0 = λ s. (e : ℕ) → Stands (of_reloc c.args.fault) c.args.tables.now.bytes.now s e → ⊥ in
    below_more P c.loop-section.section c.loop-section.invariant c.in_default.ensures

pub returns-in-Some : goal.returns-in-Some
returns-in-Some c =
    rw (c.fault_at.ensures, c.kind.ensures)
    (first_of (of_reloc c.args.fault) c.args.tables.now.bytes.now c.loop-section.section c.in-Some.entry c.requires
    c.in-Some.ensures.0 c.loop-section.invariant c.in-Some.ensures.1)

pub returns : goal.returns
returns c =
    let b = c.args.tables.now.bytes.now in
    none_more (of_reloc c.args.fault) b c.requires
    (λ s e w.
    let within = at_reloc c.args.fault b s e w in
    c.loop-section.invariant s (omega (arith, within.0.0.1, c.args.tables.now.count_is)) e w)
