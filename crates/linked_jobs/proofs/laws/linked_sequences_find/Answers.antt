use Rattle.linked_jobs.proofs.Runs.{linked_find}
use Rattle.linked_jobs.proofs.laws.linked_sequences_find.Goals as goal

pub returns : goal.returns
returns c = linked_find
