use Rattle.link_core.proofs.TogetherPlaces.{replaced_fields_lie_in_sites}
use Rattle.link_core.proofs.laws.replaced_fields_lie_in_sites.Goals as goal

pub returns : goal.returns
returns c = replaced_fields_lie_in_sites
