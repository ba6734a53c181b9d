-- The code of a thread in a call.
use Rattle.call_alike.proofs.Threads.{code_there}
use Rattle.call_alike.proofs.laws.code_is_alike.Goals as goal

pub returns : goal.returns
returns c = code_there
