use Rattle.meant_images.proofs.Numbered.{has_number}
use Rattle.meant_images.proofs.targets.bound_target.Goals as goal

pub returns-in-Some-Here-clause-numbered : goal.returns-in-Some-Here-clause-numbered
returns-in-Some-Here-clause-numbered c =
    let found = c.in-Some-Here.found in
    let there = rw c.in-Some-Here.field-0-is at c.in-Some-Here.ensures.within in
    has_number c.args.inputs.now found c.requires.own c.is_given.ensures there
