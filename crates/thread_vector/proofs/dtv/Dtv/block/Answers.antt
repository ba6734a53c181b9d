-- The block of the instance's image.
use Rattle.std.proofs.Common.{◌∙◌, sym}
use Rattle.thread_vector.proofs.Facts.{image_has}
use Rattle.thread_vector.proofs.Stepping.{held_at, held_none}
use Rattle.thread_vector.proofs.dtv.Dtv.block.Goals as goal

pub returns-in_default : goal.returns-in_default
returns-in_default c = held_none c.args.self.now c.args.instance (sym c.image_of.ensures ∙ c.in_default.is)

pub own_block-requires-clause-loaded : goal.own_block-requires-clause-loaded
own_block-requires-clause-loaded c =
    (image_has c.args.self.now.past c.args.instance c.in-Some.image (sym c.image_of.ensures ∙ c.in-Some.is)).1

pub returns-in-Some-offset : goal.returns-in-Some-offset
returns-in-Some-offset c =
    held_at c.args.self.now c.args.instance c.in-Some.image (sym c.image_of.ensures ∙ c.in-Some.is)
    ∙ c.surplus_block.ensures

pub returns-in-None : goal.returns-in-None
returns-in-None c = held_at c.args.self.now c.args.instance c.in-Some.image (sym c.image_of.ensures ∙ c.in-Some.is)
    ∙ c.own_block.ensures
