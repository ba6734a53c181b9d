use Rattle.linked_jobs.proofs.Runs.{linked_agree}
use Rattle.linked_jobs.proofs.laws.linked_answers_agree.Goals as goal

pub returns : goal.returns
returns c = linked_agree
