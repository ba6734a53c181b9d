use Rattle.sequence_laws.proofs.Rewritten.{rewritten_read}
use Rattle.sequence_laws.proofs.laws.rewritten_sites_are_read.Goals as goal

pub returns : goal.returns
returns c = rewritten_read
