use Rattle.link_core.proofs.StandingTable.{stub_at, stub_jumps}
use Rattle.link_core.proofs.laws.stubs_stand.Goals as goal
use Rattle.link_core.proofs.Few.{table_fits}

pub returns : goal.returns
returns c l given links has = record {
  stands = stub_at l given (table_fits l given links.sound.limits) has;
  jumps = stub_jumps l given (table_fits l given links.sound.limits);
}
