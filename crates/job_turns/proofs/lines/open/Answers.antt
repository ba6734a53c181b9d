use Rattle.std.proofs.Common.{◌∙◌, refl, ap}
use Rattle.std.specs.Prelude.{is_some}
use Rattle.job_turns.proofs.OpensBegun.{open_accepts, open_begins}
use Rattle.job_turns.proofs.lines.open.Goals as goal

pub see-requires-clause-accepted : goal.see-requires-clause-accepted
see-requires-clause-accepted c = open_accepts c.args.space.now.vector.past _ refl c.requires.accepted

pub returns-clause-begins : goal.returns-clause-begins
returns-clause-begins c =
    open_begins c.args.space.now c.see.new.space c.load_new.new.space
    (record { number = c.args.number; told = c.args.line.now })
    c.is_some-was.result c.args.instance c.requires.accepted c.requires.ready.startups c.requires.ready.pieces c.in_ok-see.ensures.sees
    (c.is_some-was.ensures ∙ ap is_some c.instance.ensures) c.in_ok-load_new.ensures.loads c.requires.instance
