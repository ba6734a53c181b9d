use Rattle.linked_jobs.proofs.Telling.{threads_told}
use Rattle.linked_jobs.proofs.laws.transcripts_tell_their_threads.Goals as goal

pub returns : goal.returns
returns c = threads_told
