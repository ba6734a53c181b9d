use Rattle.refuted_definitions.proofs.HistoryCases.{histories_refuted}
use Rattle.refuted_definitions.proofs.laws.histories_are_refuted.Goals as goal

pub returns : goal.returns
returns c = histories_refuted c.histories_have_accounts.ensures c.opens_are_ruled.ensures c.closes_are_ruled.ensures
