use Rattle.link_core.proofs.StandingTable.{entry_stands}
use Rattle.link_core.proofs.laws.entries_stand.Goals as goal
use Rattle.link_core.proofs.Few.{table_fits}

pub returns : goal.returns
returns c l need at given links listed is = entry_stands l given (table_fits l given links.sound.limits) need at is
