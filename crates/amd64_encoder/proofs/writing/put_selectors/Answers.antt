-- ModRM, SIB and the displacement, one behind another.
use Rattle.std.proofs.Common.{ap, arith}
use Rattle.amd64_subset.specs.Number.{count_of}
use Rattle.amd64_encoder.proofs.Splices.{length-selectors, selectors_spliced}
use Rattle.amd64_encoder.proofs.writing.put_selectors.Goals as goal

pub put_number-requires : goal.put_number-requires
put_number-requires c =
    let size = ap count_of c.displacement_size.ensures in
    omega (arith, length-selectors c.args.selectors c.in-Some.selectors c.args.displacement c.in-Some.is)

pub returns-in-Some-clause-written : goal.returns-in-Some-clause-written
returns-in-Some-clause-written c =
    selectors_spliced c.args.selectors c.in-Some.selectors c.displacement_size.result c.args.displacement c.args.at _ _ c.args.into.now _ _ _ c.in-Some.is c.displacement_size.ensures (omega arith)
    c.put-at.ensures.written c.put-at.ensures.next c.put-at-in-Some.ensures.written c.put-at-in-Some.ensures.next c.put_number.ensures.written

pub returns-in-Some-clause-next : goal.returns-in-Some-clause-next
returns-in-Some-clause-next c =
    let size = ap count_of c.displacement_size.ensures in
    omega (arith, length-selectors c.args.selectors c.in-Some.selectors c.args.displacement c.in-Some.is)
