use Rattle.job_check.proofs.Resuming.{resume_goes, resume_sequence, resume_unloaded}
use Rattle.job_check.proofs.StepsMade.{if_ok}
use Rattle.job_check.proofs.running.resume.Goals as goal

pub returns-in-None-default : goal.returns-in-None-default
returns-in-None-default c = resume_unloaded c.args.state.now c.args.space.now c.in-None-default.ensures

pub returns-in-Some-None : goal.returns-in-Some-None
returns-in-Some-None c =
    resume_goes c.args.state.now c.args.space.now c.in-Some-None.field-0-0 c.in-Some-None.ensures c.in-Some-None.ensures'

pub returns-in-Some-Some : goal.returns-in-Some-Some
returns-in-Some-Some c = if_ok _ _ c.resume_at.result c.resume_at.ensures
    (λ it resumes. resume_sequence c.args.state.now c.args.space.now c.in-Some-Some.field-0-0 c.in-Some-Some.sequence it c.resume_at.new.state c.resume_at.new.space
    c.in-Some-Some.ensures c.in-Some-Some.ensures' resumes)
