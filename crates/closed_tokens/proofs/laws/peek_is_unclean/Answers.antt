use Rattle.closed_tokens.proofs.Peeked.{unclean}
use Rattle.closed_tokens.proofs.laws.peek_is_unclean.Goals as goal

pub returns : goal.returns
returns c = unclean
