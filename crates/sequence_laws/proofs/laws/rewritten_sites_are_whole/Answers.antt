use Rattle.sequence_laws.proofs.Rewritten.{rewritten_whole}
use Rattle.sequence_laws.proofs.laws.rewritten_sites_are_whole.Goals as goal

pub returns : goal.returns
returns c = rewritten_whole
