use Rattle.std.proofs.Common.{ℕ, subst, arith}
use Rattle.object_rules.specs.declared.fault.FaultKind.TheVariants.{RelocTarget}
use Rattle.object_faults.specs.Faults.{Stands}
use Rattle.object_faults.proofs.Order.{at_target, none_more, first_of}
use Rattle.object_faults.proofs.targets.ask_targets.Goals as goal

pub returns-in-Some-clause-answers : goal.returns-in-Some-clause-answers
returns-in-Some-clause-answers c =
    let b = c.args.tables.now.bytes.now in
    let first = c.in-Some.ensures.first in
    rw c.fault_at.ensures (first_of RelocTarget b c.in-Some.section 0 c.requires first.0
    (λ s h e w.
    let within = at_target b s e w in
    let P : ℕ → Type 0 = λ x. Stands RelocTarget b s x in
    first.1 s h (subst P within.0 w))
    (λ e h w. omega arith))

pub returns-in-None-clause-answers : goal.returns-in-None-clause-answers
returns-in-None-clause-answers c =
    let b = c.args.tables.now.bytes.now in
    none_more RelocTarget b c.requires
    (λ s e w.
    let within = at_target b s e w in
    let P : ℕ → Type 0 = λ x. Stands RelocTarget b s x in
    c.in-None.ensures.first s (subst P within.0 w))
