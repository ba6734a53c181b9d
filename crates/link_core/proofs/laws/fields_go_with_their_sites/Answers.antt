use Rattle.link_core.proofs.Together.{together}
use Rattle.link_core.proofs.laws.fields_go_with_their_sites.Goals as goal

pub returns : goal.returns
returns c = together
