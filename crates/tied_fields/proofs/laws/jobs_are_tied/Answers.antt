use Rattle.tied_fields.proofs.Jobs.{jobs_tied}
use Rattle.tied_fields.proofs.laws.jobs_are_tied.Goals as goal

pub returns : goal.returns
returns c = jobs_tied
