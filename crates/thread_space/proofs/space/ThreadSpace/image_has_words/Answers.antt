-- The parts from one on.
use Rattle.std.proofs.Common.{◌∙◌, sym, arith}
use Rattle.thread_space.proofs.PartBytes.{words_end, words_hit, words_miss, words_start}
use Rattle.thread_space.proofs.space.ThreadSpace.image_has_words.Goals as goal

pub loop-number-init : goal.loop-number-init
loop-number-init c = words_start c.args.self.now.vector.images c.args.image.now c.args.instance.now c.args.address

pub returns-then-part_has_words-clause-found : goal.returns-then-part_has_words-clause-found
returns-then-part_has_words-clause-found c =
    words_hit c.args.self.now.vector.images c.args.image.now c.args.instance.now c.args.address c.loop-number.number _ c.loop-number.invariant (omega arith)
    (sym c.part_has_words.ensures.found ∙ c.if-part_has_words.true)

pub loop-number-preserved : goal.loop-number-preserved
loop-number-preserved c =
    words_miss c.args.self.now.vector.images c.args.image.now c.args.instance.now c.args.address c.loop-number.number _ c.loop-number.invariant (omega arith)
    (sym c.part_has_words.ensures.found ∙ c.if-part_has_words.false)

pub returns-clause-found : goal.returns-clause-found
returns-clause-found c =
    words_end c.args.self.now.vector.images c.args.image.now c.args.instance.now c.args.address c.loop-number.number _ c.loop-number.invariant (omega arith)
