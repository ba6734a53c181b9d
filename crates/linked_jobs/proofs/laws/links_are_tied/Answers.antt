use Rattle.linked_jobs.proofs.Tied.{links_tied}
use Rattle.linked_jobs.proofs.laws.links_are_tied.Goals as goal

pub returns : goal.returns
returns c = links_tied
