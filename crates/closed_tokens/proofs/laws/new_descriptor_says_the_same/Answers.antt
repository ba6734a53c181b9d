use Rattle.closed_tokens.proofs.OldDescriptor.{says_the_same}
use Rattle.closed_tokens.proofs.laws.new_descriptor_says_the_same.Goals as goal

pub returns : goal.returns
returns c = says_the_same
