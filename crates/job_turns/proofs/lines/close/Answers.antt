use Rattle.std.proofs.Common.{refl}
use Rattle.job_turns.proofs.OpensBegun.{close_accepts, close_begins}
use Rattle.job_turns.proofs.lines.close.Goals as goal

pub see-requires-clause-accepted : goal.see-requires-clause-accepted
see-requires-clause-accepted c = close_accepts c.args.space.now.vector.past _ refl c.requires.accepted

pub returns-clause-begins : goal.returns-clause-begins
returns-clause-begins c =
    close_begins c.args.space.now c.see.new.space
    (record { number = c.args.number; told = c.args.line.now }) c.requires.accepted
    c.requires.ready.startups c.in_ok-see.ensures.sees
