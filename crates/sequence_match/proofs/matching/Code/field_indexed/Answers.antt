use Rattle.std.proofs.Common.{arith}
use Rattle.sequence_match.proofs.Indexed.{last_covers, none_covers}
use Rattle.sequence_match.proofs.matching.Code.field_indexed.Goals as goal

pub returns-then-place-last : goal.returns-then-place-last
returns-then-place-last c =
    let code = c.args.self.now in
    last_covers code.relocations.now c.args.fields.now c.requires.ready.few c.requires.index c.requires.ready.apart c.args.place c.in-Some.last
    c.in-Some.ensures.0 c.in-Some.ensures.1 (omega (arith, c.if-place-last.true, c.in-Some.ensures.1))

pub returns-else-place-last : goal.returns-else-place-last
returns-else-place-last c =
    let code = c.args.self.now in
    none_covers code.relocations.now c.args.fields.now c.requires.ready.few c.requires.index c.requires.ready.apart c.args.place c.in-Some.last
    c.in-Some.ensures.0 c.in-Some.ensures.1 c.in-Some.ensures.2
    (omega (arith, c.if-place-last.false, c.in-Some.ensures.1))
