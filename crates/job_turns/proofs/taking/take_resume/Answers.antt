use Rattle.std.proofs.Common.{refl, subst}
use Rattle.transcript_text.specs.declared.outcomes.LineFault.TheVariants.{Unloaded as UnloadedFault}
use Rattle.transcript_text.specs.declared.outcomes.Outcome.TheVariants.{Fault}
use Rattle.thread_blocks.specs.Turns.{Answered, Stopped}
use Rattle.thread_turns.specs.declared.parts.Resumed.{Resumed}
use Rattle.thread_turns.specs.declared.parts.Resumed.TheVariants as resumed
use Rattle.job_turns.specs.Running.{Resumes}
use Rattle.job_turns.proofs.TakenLines.{ends_resumes, goes_resumes}
use Rattle.job_turns.proofs.taking.take_resume.Goals as goal

pub returns-in-Goes-clause-resumes : goal.returns-in-Goes-clause-resumes
returns-in-Goes-clause-resumes c =
    goes_resumes c.args.fuel c.args.machine c.args.asked c.args.space.now c.answer_asked.new.machine c.answer_asked.new.space c.run_to.new.space
    c.run_to.result c.requires.taken
    (subst (λ (result : Resumed). Resumes c.args.machine c.args.space.now c.args.asked result c.answer_asked.new.machine c.answer_asked.new.space)
    c.in-Goes.is c.in_ok-answer_asked.ensures.ok) c.run_to.ensures

pub returns-in-Stops-clause-resumes : goal.returns-in-Stops-clause-resumes
returns-in-Stops-clause-resumes c =
    ends_resumes c.args.fuel c.args.machine c.args.asked c.args.space.now
    (resumed.Stops c.in-Stops.stop) c.answer_asked.new.machine
    c.answer_asked.new.space (Stopped c.in-Stops.stop) c.outcome_of.result c.outcome_of.ensures
    (subst (λ (result : Resumed). Resumes c.args.machine c.args.space.now c.args.asked result c.answer_asked.new.machine c.answer_asked.new.space)
    c.in-Stops.is c.in_ok-answer_asked.ensures.ok) (λ seen. refl)

pub returns-in-Unloaded-clause-resumes : goal.returns-in-Unloaded-clause-resumes
returns-in-Unloaded-clause-resumes c =
    ends_resumes c.args.fuel c.args.machine c.args.asked c.args.space.now resumed.Unloaded c.answer_asked.new.machine
    c.answer_asked.new.space (Answered (Fault UnloadedFault)) (Fault UnloadedFault) refl
    (subst (λ (result : Resumed). Resumes c.args.machine c.args.space.now c.args.asked result c.answer_asked.new.machine c.answer_asked.new.space)
    c.in-Unloaded.is c.in_ok-answer_asked.ensures.ok) (λ seen. refl)
