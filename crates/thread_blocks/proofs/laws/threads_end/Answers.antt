use Rattle.thread_blocks.proofs.Endings.{threads_ended}
use Rattle.thread_blocks.proofs.laws.threads_end.Goals as goal

pub returns : goal.returns
returns c = λ l fuel lines order thread own at. threads_ended l fuel lines order thread own at
