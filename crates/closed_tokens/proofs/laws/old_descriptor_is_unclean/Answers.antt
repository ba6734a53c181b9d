use Rattle.closed_tokens.proofs.OldDescriptor.{unclean}
use Rattle.closed_tokens.proofs.laws.old_descriptor_is_unclean.Goals as goal

pub returns : goal.returns
returns c = unclean
