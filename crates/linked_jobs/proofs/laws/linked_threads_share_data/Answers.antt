use Rattle.linked_jobs.proofs.Data.{share_data}
use Rattle.linked_jobs.proofs.laws.linked_threads_share_data.Goals as goal

pub returns : goal.returns
returns c = share_data
