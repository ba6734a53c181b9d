use Rattle.got_pairs.proofs.Tables.{groups_stand_in_order}
use Rattle.got_pairs.proofs.laws.groups_stand_in_order.Goals as goal

pub returns : goal.returns
returns c = groups_stand_in_order
