use Rattle.image_writer.proofs.Puts.{splice_none}
use Rattle.image_writer.proofs.tables.put_relocation_entries.Goals as goal

pub returns-then-count-eq0-clause-bytes : goal.returns-then-count-eq0-clause-bytes
returns-then-count-eq0-clause-bytes c = rw c.if-count-eq0.true (splice_none c.args.at c.args.out.now)
