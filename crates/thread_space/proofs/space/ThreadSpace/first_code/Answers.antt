-- The parts from one on.
use Rattle.std.proofs.Common.{◌∙◌, sym, arith}
use Rattle.thread_space.proofs.Fetched.{first_hit, first_miss}
use Rattle.thread_space.proofs.space.ThreadSpace.first_code.Goals as goal

pub returns-then-part_meets : goal.returns-then-part_meets
returns-then-part_meets c =
    first_hit c.args.self.now.vector.images c.args.image.now c.args.instance.now c.requires.there c.args.place c.loop-number.number _ c.loop-number.invariant (omega arith)
    (sym c.part_meets.ensures ∙ c.if-part_meets.true)

pub loop-number-preserved : goal.loop-number-preserved
loop-number-preserved c =
    first_miss c.args.self.now.vector.images c.args.image.now c.args.instance.now c.requires.there c.args.place c.loop-number.number _ c.loop-number.invariant (omega arith)
    (sym c.part_meets.ensures ∙ c.if-part_meets.false)
