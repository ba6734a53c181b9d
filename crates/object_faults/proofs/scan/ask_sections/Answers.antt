use Rattle.std.proofs.Common.{ℕ, below_more, subst, arith}
use Rattle.object_faults.specs.Faults.{Stands}
use Rattle.object_rules.specs.Kinds.{of_section}
use Rattle.object_faults.proofs.Order.{in_section, none_more, first_of}
use Rattle.object_faults.proofs.scan.ask_sections.Goals as goal

pub loop-section-init : goal.loop-section-init
loop-section-init c = λ s h e w. let within = in_section c.args.fault c.args.tables.now.bytes.now s e w in
    omega (arith, within.1.0)

pub loop-section-preserved : goal.loop-section-preserved
loop-section-preserved c =
    let b = c.args.tables.now.bytes.now in
    let P : ℕ → Type 0 = λ s. (e : ℕ) → Stands (of_section c.args.fault) b s e → ⊥ in
    below_more P c.loop-section.section c.loop-section.invariant
    (λ e w.
    let within = in_section c.args.fault b c.loop-section.section e w in
    let At : ℕ → Type 0 = λ x. Stands (of_section c.args.fault) b c.loop-section.section x in
    let wrong = c.if-section_stands.ensures.1 (subst At within.0 w) in cc)

pub returns-then-section_stands : goal.returns-then-section_stands
returns-then-section_stands c =
    rw (c.fault_at.ensures, c.kind.ensures)
    (first_of (of_section c.args.fault) c.args.tables.now.bytes.now c.loop-section.section 0 c.requires
    (c.section_stands.ensures.0 c.if-section_stands.true) c.loop-section.invariant (λ f h w. omega arith))

pub returns : goal.returns
returns c =
    let b = c.args.tables.now.bytes.now in
    none_more (of_section c.args.fault) b c.requires
    (λ s e w.
    let within = in_section c.args.fault b s e w in
    c.loop-section.invariant s (omega (arith, within.1.1, c.args.tables.now.count_is)) e w)
