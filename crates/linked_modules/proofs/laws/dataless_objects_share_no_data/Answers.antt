use Rattle.linked_modules.proofs.Unshared.{share_no_data}
use Rattle.linked_modules.proofs.laws.dataless_objects_share_no_data.Goals as goal

pub returns : goal.returns
returns c = share_no_data
