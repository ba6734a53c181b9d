use Rattle.job_check.proofs.StepsMade.{asks_step}
use Rattle.job_check.proofs.running.asked.Goals as goal

pub returns : goal.returns
returns c = asks_step c.asked_stop.result c.in_ok-stepped.stepped c.args.state.now c.args.space.now c.step.new.state c.step.new.space c.asked_stop.ensures
    (rw c.in_ok-tried.ensures at c.in_ok-stepped.ensures)
