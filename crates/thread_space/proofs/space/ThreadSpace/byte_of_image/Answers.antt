-- The parts from one on.
use Rattle.std.proofs.Common.{◌∙◌, sym, arith}
use Rattle.thread_space.proofs.PartBytes.{fixed_end, fixed_hit, fixed_miss, fixed_start}
use Rattle.thread_space.proofs.space.ThreadSpace.byte_of_image.Goals as goal

pub loop-number-init : goal.loop-number-init
loop-number-init c = fixed_start c.args.self.now.vector.images c.args.image.now c.args.instance.now c.args.access c.args.place

pub returns-in-Some : goal.returns-in-Some
returns-in-Some c =
    fixed_hit c.args.self.now.vector.images c.args.image.now c.args.instance.now c.args.access c.args.place c.loop-number.number c.in-Some.byte _ c.loop-number.invariant (omega arith)
    (sym c.byte_of_part.ensures ∙ c.in-Some.is)

pub loop-number-preserved : goal.loop-number-preserved
loop-number-preserved c =
    fixed_miss c.args.self.now.vector.images c.args.image.now c.args.instance.now c.args.access c.args.place c.loop-number.number _ c.loop-number.invariant (omega arith)
    (sym c.byte_of_part.ensures ∙ c.in_default.is)

pub returns : goal.returns
returns c =
    fixed_end c.args.self.now.vector.images c.args.image.now c.args.instance.now c.args.access c.args.place c.loop-number.number _ c.loop-number.invariant (omega arith)
