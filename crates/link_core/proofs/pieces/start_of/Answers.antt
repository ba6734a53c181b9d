use Rattle.std.proofs.Common.{◌∙◌, None, arith}
use Rattle.link_core.proofs.Laying.{front_ends}
use Rattle.link_core.proofs.pieces.start_of.Goals as goal

pub returns-clause-start : goal.returns-clause-start
returns-clause-start c =
    c.end_of.ensures.end
    ∙ front_ends c.args.plan.now c.args.parts.now c.args.number (record { place = 0; section = None })
    c.requires.parts.rise (omega arith) c.requires.inside

pub returns-clause-near : goal.returns-clause-near
returns-clause-near c =
    let start = c.end_of.ensures.end
    ∙ front_ends c.args.plan.now c.args.parts.now c.args.number (record { place = 0; section = None })
    c.requires.parts.rise (omega arith) c.requires.inside in
    (omega (arith, start), c.end_of.ensures.near)
