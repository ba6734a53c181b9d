use Rattle.std.proofs.Common.{◌-◌, ◌<◌, ℕ, arith, rules}
use Rattle.sequence_match.specs.Code.{CoversIn}
use Rattle.sequence_match.proofs.Nearby.{above_not_any, none_left, none_lower, none_seen, one_seen}
use Rattle.sequence_match.proofs.Seconds.{none_where_false}
use Rattle.sequence_match.proofs.near.is_bare_below.Goals as goal

pub loop-step-init : goal.loop-step-init
loop-step-init c =
    none_seen c.args.relocations.now (λ y. CoversIn y c.args.from c.args.to) c.args.end (c.args.to - 1)
    (λ k d low high. omega (arith, c.requires.above k d low high, c.requires.some))
    (above_not_any c.args.from c.args.to)

pub loop-step-preserved : goal.loop-step-preserved
loop-step-preserved c =
    let xs = c.args.relocations.now in
    let less : c.loop-step.step < c.args.end = omega arith in
    one_seen xs (λ y. CoversIn y c.args.from c.args.to) c.args.end c.loop-step.step c.at-relocation.result less c.at-relocation.ensures c.loop-step.invariant
    (none_where_false _ _ c.covers_any.ensures c.if-covers_any.false)

pub returns-then-covers_any : goal.returns-then-covers_any
returns-then-covers_any c = (
  λ t. absurd (cc),
  λ bare.
      let xs = c.args.relocations.now in
      let n : ℕ = c.args.end - 1 - c.loop-step.step in
      let here = c.covers_any.ensures.0 (search rules) in
      absurd (bare here.0 here.1 here.2 n c.at-relocation.result c.at-relocation.ensures here.3),
)

pub returns-then-is_last_below : goal.returns-then-is_last_below
returns-then-is_last_below c = (
  λ t k low high f y at covers.
      let xs = c.args.relocations.now in
      let n : ℕ = c.args.end - 1 - c.loop-step.step in
      let less : c.loop-step.step < c.args.end = omega arith in
      let last = c.is_last_below.ensures.0 (search rules) in
      none_left xs (λ y. CoversIn y c.args.from c.args.to) c.args.end c.loop-step.step c.at-relocation.result less c.at-relocation.ensures c.loop-step.invariant
      (none_where_false _ _ c.covers_any.ensures c.if-covers_any.false)
      (λ g z lower there h. none_lower xs c.args.from n h.0 c.at-relocation.result c.requires.rise c.requires.apart c.at-relocation.ensures last h.1 g z lower there h.3)
      f y at (k, low, high, covers),
  λ h. (search rules),
)

pub returns : goal.returns
returns c = (
  λ t k low high f y at covers. c.loop-step.invariant f y (omega arith) at (k, low, high, covers),
  λ h. (search rules),
)
