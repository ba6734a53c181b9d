use Rattle.sequence_laws.proofs.Kept.{kept_read}
use Rattle.sequence_laws.proofs.laws.kept_sites_are_read.Goals as goal

pub returns : goal.returns
returns c = kept_read
