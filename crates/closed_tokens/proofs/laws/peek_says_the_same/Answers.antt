use Rattle.closed_tokens.proofs.Peeked.{says_the_same}
use Rattle.closed_tokens.proofs.laws.peek_says_the_same.Goals as goal

pub returns : goal.returns
returns c = says_the_same
