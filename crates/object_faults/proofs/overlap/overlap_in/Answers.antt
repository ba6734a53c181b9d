use Rattle.std.proofs.Common.{◌≡◌, ℕ, slice_index, below_more, arith}
use Rattle.object_rules.specs.declared.fault.FaultKind.TheVariants.{RelocOverlap}
use Rattle.object_faults.specs.Relocations.{Covers, IsReloc}
use Rattle.object_faults.specs.Faults.{Stands}
use Rattle.object_faults.proofs.Overlaps.{overlap_found, overlap_none, marked_more, marks_below, at_overlap}
use Rattle.object_faults.proofs.overlap.overlap_in.Goals as goal

pub returns-in_err-relocs-clause-first : goal.returns-in_err-relocs-clause-first
returns-in_err-relocs-clause-first c =
    rw c.from_residual.ensures
    (λ e w. c.in_err-relocs.ensures e (at_overlap c.args.tables.now.bytes.now c.args.section e w))

pub returns-then-mark_field-clause-first : goal.returns-then-mark_field-clause-first
returns-then-mark_field-clause-first c =
    let relocs = c.in_ok-relocs.ensures in
    let reloc : IsReloc c.args.tables.now.bytes.now c.args.section c.loop-entry.entry =
    (relocs.of_kept.0, relocs.of_kept.1, omega (arith, relocs.count_is)) in (
      overlap_found c.args.tables.now.bytes.now c.args.section c.loop-entry.entry c.loop-entry.marks reloc c.loop-entry.invariant.marked
          (c.mark_field.ensures.had.0 c.if-mark_field.true),
      c.loop-entry.invariant.none,
    )

pub loop-entry-preserved : goal.loop-entry-preserved
loop-entry-preserved c =
    let b = c.args.tables.now.bytes.now in
    let s = c.args.section in
    let e = c.loop-entry.entry in
    let P : ℕ → Type 0 = λ x. Stands RelocOverlap b s x → ⊥ in
    let none : (k : ℕ) × Covers b s e k × (slice_index c.loop-entry.marks k ≡ s)
    → ⊥ = λ has. let wrong = c.if-mark_field.ensures.had.1 has in cc in
    record {
      below = marks_below b s e c.loop-entry.marks c.mark_field.new.marks c.loop-entry.invariant.below c.mark_field.ensures.within c.mark_field.ensures.outside;
      marked = marked_more b s e c.loop-entry.marks c.mark_field.new.marks c.loop-entry.invariant.marked c.mark_field.ensures.within c.mark_field.ensures.outside;
      none = below_more P e c.loop-entry.invariant.none
          (overlap_none b s e c.loop-entry.marks c.loop-entry.invariant.marked none);
    }

pub returns-clause-first : goal.returns-clause-first
returns-clause-first c = λ e w.
    let within = at_overlap c.args.tables.now.bytes.now c.args.section e w in
    c.loop-entry.invariant.none e (omega (arith, within.2, c.in_ok-relocs.ensures.count_is)) w
