use Rattle.field_laws.proofs.Letters.{resolved_stores}
use Rattle.field_laws.proofs.laws.resolved_links_store_fields.Goals as goal

pub returns : goal.returns
returns c = resolved_stores
