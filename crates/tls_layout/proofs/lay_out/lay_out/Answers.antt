use Rattle.std.proofs.Common.{◌+◌, refl, arith}
use Rattle.tls_layout.proofs.Ends.{end_of-none, end_of-front, end_at, gives_more, keeps_more}
use Rattle.tls_layout.proofs.lay_out.lay_out.Goals as goal

pub loop-index-init : goal.loop-index-init
loop-index-init c = record {
  at = end_of-none c.args.class c.args.from c.args.sections.now;
  within = c.requires.within;
  below = λ k h. absurd (omega arith);
  above = λ k h. refl;
}

pub returns-then-limit-end-clause-beyond : goal.returns-then-limit-end-clause-beyond
returns-then-limit-end-clause-beyond c =
    let at = end_at _ _ _ _ _ _ _ c.loop-index-test.true c.loop-index.invariant.at c.give_place-end.ensures.end in (
      c.fault.ensures,
      omega (
        arith,
        at,
        end_of-front c.args.class c.args.from c.args.sections.now (c.loop-index.index + 1),
        c.if-limit-end.true,
      ),
    )

pub loop-index-preserved : goal.loop-index-preserved
loop-index-preserved c = record {
  at = end_at _ _ _ _ _ _ _ c.loop-index-test.true c.loop-index.invariant.at c.give_place-end.ensures.end;
  within = omega (arith, c.if-limit-end.false);
  below = gives_more _ _ _ _ _ _ _ _ _ _ c.loop-index-test.true
      (omega arith) c.loop-index.invariant.at c.loop-index.invariant.below c.loop-index.invariant.above c.give_place-end.ensures.place;
  above = keeps_more _ _ _ _ c.loop-index.invariant.above;
}
