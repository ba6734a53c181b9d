use Rattle.std.proofs.Common.{ap, eq-eqb, ne_eqb, ◌∙◌}
use Rattle.guest_machine.specs.Run.{returned}
use Rattle.job_check.proofs.RunsMade.{run_ends, run_goes, run_looks, run_over, run_spent}
use Rattle.job_check.proofs.running.run.Goals as goal

pub returns-then-state-eq-RETURN : goal.returns-then-state-eq-RETURN
returns-then-state-eq-RETURN c =
    run_over c.args.count c.args.state.now c.args.space.now c.loop-state.state c.loop-state.space c.loop-state.left c.returned.result
    (eq-eqb _ _ c.if-state-eq-RETURN.true)
    (c.returned.ensures ∙ ap
    (λ answer. returned answer c.loop-state.state.place) c.number_of-answer.ensures) c.loop-state.invariant.reaches

pub returns-then-left-eq0 : goal.returns-then-left-eq0
returns-then-left-eq0 c =
    rw c.if-left-eq0.true (run_spent c.args.count c.args.state.now c.args.space.now c.loop-state.state c.loop-state.space c.in_ok-asked.field-0
    (ne_eqb _ _ c.if-state-eq-RETURN.false) c.in_ok-asked.ensures
    (rw c.if-left-eq0.true at c.loop-state.invariant.reaches))

pub loop-state-preserved : goal.loop-state-preserved
loop-state-preserved c =
    let steps = rw c.in-Goes.is at c.in_ok-step.ensures in record {
      reaches = run_goes c.args.count c.args.state.now c.args.space.now c.loop-state.state c.loop-state.space c.loop-state.left c.step.new.state c.step.new.space
          c.if-left-eq0.false (ne_eqb _ _ c.if-state-eq-RETURN.false) steps c.loop-state.invariant.reaches;
      none = steps.keeps.lent ∙ c.loop-state.invariant.none;
    }

pub returns-in-Looks : goal.returns-in-Looks
returns-in-Looks c = run_looks c.args.count c.args.state.now c.args.space.now c.loop-state.state c.loop-state.space c.loop-state.left c.step.new.state c.step.new.space
    c.if-left-eq0.false (ne_eqb _ _ c.if-state-eq-RETURN.false)
    (rw c.in-Looks.is at c.in_ok-step.ensures) c.loop-state.invariant.reaches

pub returns-in-Ends : goal.returns-in-Ends
returns-in-Ends c = run_ends c.args.count c.args.state.now c.args.space.now c.loop-state.state c.loop-state.space c.loop-state.left c.in-Ends.stop c.step.new.state c.step.new.space
    c.if-left-eq0.false (ne_eqb _ _ c.if-state-eq-RETURN.false)
    (rw c.in-Ends.is at c.in_ok-step.ensures) c.loop-state.invariant.reaches
