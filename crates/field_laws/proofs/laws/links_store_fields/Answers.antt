use Rattle.field_laws.proofs.Links.{link_stores}
use Rattle.field_laws.proofs.laws.links_store_fields.Goals as goal

pub returns : goal.returns
returns c = link_stores
