use Rattle.meaning_laws.proofs.OwnTurns.{own_turns}
use Rattle.meaning_laws.proofs.laws.threads_mean_their_own.Goals as goal

pub returns : goal.returns
returns c = λ m fuel lines order thread own none at. own_turns m fuel lines order thread own none at
