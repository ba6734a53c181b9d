-- A block that is there stays, and another is made.
use Rattle.std.proofs.Common.{◌∙◌, sym}
use Rattle.thread_vector.proofs.Facts.{image_has}
use Rattle.thread_vector.proofs.Stepping.{no_offset, on_ok, reached_made, reached_nowhere, reached_there}
use Rattle.thread_vector.proofs.dtv.Dtv.reach.Goals as goal

pub returns-then-has_block-clause-blocks : goal.returns-then-has_block-clause-blocks
returns-then-has_block-clause-blocks c =
    reached_there c.args.self.now c.args.instance (sym c.has_block.ensures.value ∙ c.if-has_block.true)

pub returns-in_default-clause-blocks : goal.returns-in_default-clause-blocks
returns-in_default-clause-blocks c =
    reached_nowhere c.args.self.now c.args.instance (sym c.image_of.ensures ∙ c.in_default.is)

pub make-requires-clause-loaded : goal.make-requires-clause-loaded
make-requires-clause-loaded c =
    (image_has c.args.self.now.past c.args.instance c.in-Some.image (sym c.image_of.ensures ∙ c.in-Some.is)).1

pub make-requires-clause-own : goal.make-requires-clause-own
make-requires-clause-own c =
    no_offset c.args.self.now c.args.instance c.in-Some.image (sym c.image_of.ensures ∙ c.in-Some.is)
    (sym c.has_block.ensures.value ∙ c.if-has_block.false)

pub returns-clause-blocks : goal.returns-clause-blocks
returns-clause-blocks c =
    on_ok c.make.result (λ made. reached_made c.args.self.now c.make.new.self c.args.instance c.in-Some.image c.make.ensures.is (sym c.image_of.ensures ∙ c.in-Some.is) (sym c.has_block.ensures.value ∙ c.if-has_block.false) made) c.make.ensures.made
