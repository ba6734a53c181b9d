use Rattle.std.proofs.Common.{ℕ, below_more, arith}
use Rattle.object_faults.specs.Walks.{IsFaultless, HasRoomToMark}
use Rattle.object_faults.proofs.Walks.{at_faulty}
use Rattle.object_faults.proofs.walk.most_to_mark.Goals as goal

pub loop-section-init : goal.loop-section-init
loop-section-init c = record {
  faultless = λ r h e w. let within = at_faulty c.args.tables.now.bytes.now r e w in omega (arith, within.0.0.0);
  room = λ r h e reloc scattered. absurd (omega (arith, h, reloc.0.0.0));
}

pub loop-section-preserved : goal.loop-section-preserved
loop-section-preserved c =
    let b = c.args.tables.now.bytes.now in
    let most = c.max-most.result in
    let was = c.loop-section.invariant in
    let here = c.in_ok-bytes_to_mark.ensures in
    let Fine : ℕ → Type 0 = λ r. IsFaultless b r in
    let Room : ℕ → Type 0 = λ r. HasRoomToMark b r most in
    record {
      faultless = below_more Fine c.loop-section.section was.faultless here.0;
      room = below_more Room c.loop-section.section
          (λ r h e reloc scattered. omega (arith, was.room r h e reloc scattered, c.max-most.ensures))
          (λ e reloc scattered. omega (arith, here.1 e reloc scattered, c.max-most.ensures));
    }

pub returns : goal.returns
returns c = (
  λ r e w.
      let within = at_faulty c.args.tables.now.bytes.now r e w in
      c.loop-section.invariant.faultless r (omega (arith, within.0.0.1, c.args.tables.now.count_is)) e w,
  λ r e reloc. c.loop-section.invariant.room r (omega (arith, reloc.0.0.1, c.args.tables.now.count_is)) e reloc,
)
