use Rattle.job_turns.proofs.HeldWith.{live_found, reaches_live}
use Rattle.job_turns.proofs.lines.reach.Goals as goal

pub reach-requires : goal.reach-requires
reach-requires c = live_found c.args.space.now.vector.images c.args.space.now.vector.past c.args.instance.now c.history_is_lawful.ensures c.requires

pub returns-clause-ok : goal.returns-clause-ok
returns-clause-ok c = reaches_live c.args.space.now c.reach.new.self c.args.instance.now c.in_ok-reach.ensures.ok c.history_is_lawful-2.ensures
