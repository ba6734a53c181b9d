use Rattle.job_check.proofs.SequencesMade.{look_ends, look_is_made}
use Rattle.job_check.proofs.sequence.look.Goals as goal

pub returns-in-None : goal.returns-in-None
returns-in-None c = look_is_made c.args.sequence.now c.args.state.now c.args.space.now c.in-None.ensures

pub returns-in-Some : goal.returns-in-Some
returns-in-Some c = look_ends c.args.sequence.now c.args.state.now c.args.space.now c.in-Some.stop c.in-Some.ensures
