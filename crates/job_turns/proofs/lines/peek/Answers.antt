use Rattle.std.proofs.Common.{◌∙◌, sym, ap}
use Rattle.thread_blocks.specs.JobLoads.{job_loads}
use Rattle.job_turns.proofs.LinesBegun.{peek_begins, peek_closed}
use Rattle.thread_space.proofs.Live.{found_live}
use Rattle.job_turns.proofs.lines.peek.Goals as goal

pub reach-requires : goal.reach-requires
reach-requires c =
    (found_live c.args.space.now.vector.images c.args.space.now.vector.past c.args.line.now.image c.in-Some.instance
    (sym c.in-Some.ensures)).0

pub returns-in_default-clause-begins : goal.returns-in_default-clause-begins
returns-in_default-clause-begins c = λ number.
    rw c.refused.ensures
    (peek_closed c.args.space.now (record { number = number; told = c.args.line.now }) c.args.symbol.now c.args.size
    (sym c.in_default.ensures))

pub returns-clause-begins : goal.returns-clause-begins
returns-clause-begins c = λ number.
    let found = sym c.in-Some.ensures in
    peek_begins c.args.space.now
    (record { number = number; told = c.args.line.now }) c.args.symbol.now c.args.size c.in-Some.instance
    c.reach.new.space c.variable-variable.result c.in_ok-outcome.outcome found
    (found_live c.args.space.now.vector.images c.args.space.now.vector.past c.args.line.now.image c.in-Some.instance found).0
    c.in_ok-reach.ensures.ok
    (c.variable-variable.ensures
    ∙ ap (λ m. (job_loads m).variable c.args.line.now.image c.args.symbol.now) c.requires) c.in_ok-outcome.ensures
