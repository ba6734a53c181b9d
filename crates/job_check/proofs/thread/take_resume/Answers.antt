use Rattle.std.proofs.Common.{subst}
use Rattle.std.proofs.lemmas.Result.{IfOk-weaker}
use Rattle.job_check.specs.Running.{Resumes}
use Rattle.job_check.specs.Taking.{RunsTo}
use Rattle.job_check.proofs.PartsTaken.{resumes_runs}
use Rattle.job_check.proofs.thread.take_resume.Goals as goal

pub returns-in-Goes : goal.returns-in-Goes
returns-in-Goes c =
    let resumes = subst (λ s. Resumes c.args.call.state c.args.space.now s c.resume.new.state c.resume.new.space) c.in-Goes.is
    c.in_ok-resumed.ensures in
    IfOk-weaker c.run_to.result _ _
    (λ taken runs. λ fuel. resumes_runs fuel c.args.line c.args.call c.args.space.now c.resume.new.space c.resume.new.state c.run_to.new.space
    taken resumes
    (subst (λ n. RunsTo c.args.line n c.resume.new.state c.resume.new.space taken c.run_to.new.space) c.saturating_sub.ensures runs))
    c.run_to.ensures
