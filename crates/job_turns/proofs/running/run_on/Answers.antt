use Rattle.job_turns.proofs.RunTurns.{some_more, then_ends}
use Rattle.job_turns.proofs.running.run_on.Goals as goal

pub returns-in-Some : goal.returns-in-Some
returns-in-Some c =
    then_ends c.args.limit c.args.machine.now c.loop-ran.machine c.run_part.new.machine c.args.space.now c.loop-ran.space c.run_part.new.space c.in-Some.ran
    c.loop-ran.invariant c.in-Some.ensures

pub loop-ran-preserved : goal.loop-ran-preserved
loop-ran-preserved c =
    some_more c.args.limit c.args.machine.now c.loop-ran.machine c.run_part.new.machine c.args.space.now c.loop-ran.space c.run_part.new.space
    c.loop-ran.invariant c.in_default.ensures.0
