use Rattle.std.proofs.Common.{refl}
use Rattle.thread_turns.specs.declared.parts.Ended.TheVariants.{Over, Waits}
use Rattle.job_turns.proofs.TakenLines.{runs_to}
use Rattle.job_turns.proofs.taking.run_to.Goals as goal

pub returns-in-Over : goal.returns-in-Over
returns-in-Over c = runs_to c.args.limit c.args.machine c.args.space.now
    (Over c.in-Over.stop) c.run_on.new.machine c.run_on.new.space
    (Over c.outcome_of.result) c.history_is_lawful.ensures c.in-Over.ensures c.outcome_of.ensures

pub returns-in-Waits : goal.returns-in-Waits
returns-in-Waits c = runs_to c.args.limit c.args.machine c.args.space.now
    (Waits c.in-Waits.asked) c.run_on.new.machine c.run_on.new.space
    (Waits (c.run_on.new.machine, c.in-Waits.asked)) c.history_is_lawful.ensures c.in-Waits.ensures (refl, refl)
