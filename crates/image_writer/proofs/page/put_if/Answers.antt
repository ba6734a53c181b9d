use Rattle.image_writer.proofs.Puts.{splice_none}
use Rattle.image_writer.proofs.page.put_if.Goals as goal

pub returns-in_default : goal.returns-in_default
returns-in_default c = rw c.in_default.is (splice_none c.args.at c.args.out.now)
