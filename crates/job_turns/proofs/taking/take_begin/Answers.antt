use Rattle.std.proofs.Common.{subst}
use Rattle.job_turns.specs.Starting.{Started, Starts}
use Rattle.job_turns.proofs.TakenLines.{calls_begins, says_begins}
use Rattle.job_turns.proofs.taking.take_begin.Goals as goal

pub returns-in-Says-clause-begins : goal.returns-in-Says-clause-begins
returns-in-Says-clause-begins c =
    says_begins c.args.fuel
    (record { number = c.args.number; told = c.args.line.now }) c.args.space.now c.in-Says.outcome c.begin.new.space
    (subst (λ (started : Started). Starts
    (record { number = c.args.number; told = c.args.line.now }) c.args.space.now started c.begin.new.space)
    c.in-Says.is c.in_ok-outcome.ensures.starts)

pub returns-in-Calls-clause-begins : goal.returns-in-Calls-clause-begins
returns-in-Calls-clause-begins c =
    calls_begins c.args.fuel
    (record {
      number = c.args.number;
      told = c.args.line.now;
    }) c.args.space.now c.in-Calls.machine c.begin.new.space
    c.run_to.new.space c.run_to.result
    (subst (λ (started : Started). Starts
    (record { number = c.args.number; told = c.args.line.now }) c.args.space.now started c.begin.new.space)
    c.in-Calls.is c.in_ok-outcome.ensures.starts) c.run_to.ensures
