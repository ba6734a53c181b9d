use Rattle.std.proofs.Common.{ℕ, below_more, arith}
use Rattle.image_faults.specs.Segments.{IsRightLoad}
use Rattle.image_faults.proofs.loads.first_wrong_load.Goals as goal

pub returns-then-not-is_right_load : goal.returns-then-not-is_right_load
returns-then-not-is_right_load c = (
  (omega arith, λ right. let wrong = c.if-not-is_right_load.ensures.1 right in cc),
  λ f lt w. c.loop-number.invariant f lt w.1,
)

pub loop-number-preserved : goal.loop-number-preserved
loop-number-preserved c =
    let P : ℕ → Type 0 = λ i. (IsRightLoad c.args.headers.now.bytes.now i → ⊥) → ⊥ in
    below_more P c.loop-number.number c.loop-number.invariant
    (λ wrong. wrong (c.is_right_load.ensures.0 c.if-not-is_right_load.false))

pub returns : goal.returns
returns c = λ e w. c.loop-number.invariant e (omega (arith, w.0)) w.1
