use Rattle.image_writer.proofs.Puts.{splice_none}
use Rattle.image_writer.proofs.tables.put_if.Goals as goal

pub returns-in-None-clause-bytes : goal.returns-in-None-clause-bytes
returns-in-None-clause-bytes c = rw c.in-None.is (splice_none c.args.at c.args.out.now)
