use Rattle.image_writer.proofs.Finishing.{outline_held}
use Rattle.image_writer.proofs.frame.outline_of.Goals as goal

pub returns : goal.returns
returns c = outline_held c.args.draft.now c.args.layout.now c.args.parts.now c.requires.layout c.requires.parts
