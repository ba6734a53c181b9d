use Rattle.sequence_laws.proofs.Kept.{kept_whole}
use Rattle.sequence_laws.proofs.laws.kept_sites_are_whole.Goals as goal

pub returns : goal.returns
returns c = kept_whole
