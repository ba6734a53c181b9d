use Rattle.thread_blocks.proofs.Own.{own_turns}
use Rattle.thread_blocks.proofs.laws.threads_take_their_own_turns.Goals as goal

pub returns : goal.returns
returns c = λ l fuel lines order thread own none at. own_turns l fuel lines order thread own none at
