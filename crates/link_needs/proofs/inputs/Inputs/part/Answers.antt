use Rattle.link_needs.proofs.InputsLemmas.{part_small}
use Rattle.link_needs.proofs.inputs.Inputs.part.Goals as goal

pub returns-in-Some-clause-small : goal.returns-in-Some-clause-small
returns-in-Some-clause-small c section =
    part_small c.args.self.now c.args.symbol.object c.args.symbol.symbol section c.object.result.now c.in-Some.part
    c.requires.object c.object.ensures c.in-Some.ensures.object c.in-Some.ensures.placed c.in-Some.ensures.part
