use Rattle.link_needs.proofs.Reached.{stubs_have_their_word}
use Rattle.link_needs.proofs.laws.stubs_have_their_word.Goals as goal

pub returns : goal.returns
returns c = stubs_have_their_word
