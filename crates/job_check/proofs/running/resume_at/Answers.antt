use Rattle.job_check.proofs.Resuming.{none_reached, resumes_at}
use Rattle.job_check.proofs.running.resume_at.Goals as goal

pub returns-in-None : goal.returns-in-None
returns-in-None c = none_reached c.args.sequence.now c.args.state.now c.args.space.now c.in-None.ensures

pub returns-in_ok-reach-in-Some : goal.returns-in_ok-reach-in-Some
returns-in_ok-reach-in-Some c =
    resumes_at c.args.sequence.now c.args.state.now c.args.space.now c.do_sequence.new.state c.reach.new.self c.do_sequence.new.space c.in-Some.instance
    c.do_sequence.result c.as_resumed.result c.in-Some.ensures c.in_ok-reach-in-Some.ensures.reached c.do_sequence.ensures c.as_resumed.ensures
