use Rattle.std.proofs.Common.{arith}
use Rattle.object_rules.specs.declared.fault.FaultKind.TheVariants.{RelocOverlap}
use Rattle.object_faults.proofs.Order.{none_more}
use Rattle.object_faults.proofs.Overlaps.{at_overlap}
use Rattle.object_faults.proofs.overlap.ask_marked.Goals as goal

pub loop-section-init : goal.loop-section-init
loop-section-init c = record {
  below = λ k. omega (arith, c.requires.unmarked k);
  none = λ s h e w. let within = at_overlap c.args.tables.now.bytes.now s e w in omega (arith, within.0.0.0);
}

pub returns : goal.returns
returns c =
    let b = c.args.tables.now.bytes.now in
    none_more RelocOverlap b c.requires.earlier
    (λ s e w.
    let within = at_overlap b s e w in
    c.loop-section.invariant.none s (omega (arith, within.0.0.1, c.args.tables.now.count_is)) e w)

pub first_overlap-requires-clause-room : goal.first_overlap-requires-clause-room
first_overlap-requires-clause-room c = λ e reloc scattered.
    let room = c.requires.room c.loop-section.section e reloc scattered in
    omega (arith, room, c.loop-section.auto.marks)
