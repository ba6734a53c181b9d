use Rattle.job_check.proofs.StepsMade.{if_ok, plain_steps, sequence_steps}
use Rattle.job_check.proofs.step.step.Goals as goal

pub returns-in-Some : goal.returns-in-Some
returns-in-Some c = sequence_steps c.in-Some.sequence c.sequence_step.result c.args.state.now c.args.space.now c.sequence_step.new.state c.sequence_step.new.space
    c.in-Some.ensures c.sequence_step.ensures

pub returns-in-None : goal.returns-in-None
returns-in-None c = if_ok _ _ c.plain_step.result c.plain_step.ensures
    (λ stepped steps. plain_steps stepped c.args.state.now c.args.space.now c.plain_step.new.state c.plain_step.new.space c.in-None.ensures steps)
