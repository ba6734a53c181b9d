use Rattle.std.proofs.Common.{◌≡◌, suc, ◌+◌, ◌-◌, sym, ◌∙◌, ap, arith, eq-eqb, ne_eqb}
use Rattle.guest_machine.specs.Run.{Ended, returned}
use Rattle.guest_operands.specs.Use.{left}
use Rattle.guest_machine.proofs.Runs.{machine-over, machine-spent, machine-looks, machine-ends, machine-goes}
use Rattle.guest_machine.proofs.Runs.{runs-ended, runs-waits}
use Rattle.guest_machine.proofs.run.run.Goals as goal

pub returns-then-state-eq-RETURN-clause-runs : goal.returns-then-state-eq-RETURN-clause-runs
returns-then-state-eq-RETURN-clause-runs g c =
    runs-ended _ _ _ _ _ _ c.loop-state.invariant.same c.loop-state.invariant.counted _
    (machine-over g.V.Values.operations _ _ _ (eq-eqb _ _ c.if-state-eq-RETURN.true)
    ∙ sym (ap (λ stop. Ended stop (c.args.limit - c.loop-state.taken)
    (left c.loop-state.state (g.S.Space.memory c.loop-state.space)))
    (c.returned.ensures ∙ ap (λ answer. returned answer c.loop-state.state.place) c.number_of.ensures)))

pub returns-then-taken-limit-clause-runs : goal.returns-then-taken-limit-clause-runs
returns-then-taken-limit-clause-runs g c =
    runs-ended _ _ _ _ _ _ c.loop-state.invariant.same c.loop-state.invariant.counted _
    (let none : c.args.limit - c.loop-state.taken ≡ 0 = omega arith in
    rw none (machine-spent g.V.Values.operations _ _ (ne_eqb _ _ c.if-state-eq-RETURN.false)))

pub returns-then-is_look-clause-runs : goal.returns-then-is_look-clause-runs
returns-then-is_look-clause-runs g c =
    runs-waits _ _ _ _ _ _ c.loop-state.invariant.same c.loop-state.invariant.counted
    (let more : c.args.limit - c.loop-state.taken ≡ suc (c.args.limit - (c.loop-state.taken + 1)) = omega arith in
    rw more (machine-looks g.V.Values.operations _ _ _ (ne_eqb _ _ c.if-state-eq-RETURN.false)
    (sym c.is_look.ensures ∙ c.if-is_look.true)))

pub returns-in-Err-clause-runs : goal.returns-in-Err-clause-runs
returns-in-Err-clause-runs g c =
    let more : c.args.limit - c.loop-state.taken ≡ suc (c.args.limit - (c.loop-state.taken + 1)) = omega arith in
    runs-ended _ _ _ _ _ _ (rw c.in-Err.ensures.does.1 c.loop-state.invariant.same) c.loop-state.invariant.counted _
    (rw (c.in-Err.ensures.does.1, more)
    (machine-ends g.V.Values.operations _ _ _ _ (ne_eqb _ _ c.if-state-eq-RETURN.false)
    (sym c.is_look.ensures ∙ c.if-is_look.false) c.in-Err.ensures.does.0))

pub loop-state-preserved : goal.loop-state-preserved
loop-state-preserved g c =
    let more : c.args.limit - c.loop-state.taken ≡ suc (c.args.limit - (c.loop-state.taken + 1)) = omega arith in
    record {
      same =
          sym (machine-goes g.V.Values.operations _ _ (c.args.limit - (c.loop-state.taken + 1)) _
          (ne_eqb _ _ c.if-state-eq-RETURN.false) (sym c.is_look.ensures ∙ c.if-is_look.false)
          c.in_default.ensures.does)
          ∙ (rw more at c.loop-state.invariant.same);
      counted = omega arith;
      rest = c.in_default.ensures.rest ∙ c.loop-state.invariant.rest;
    }
