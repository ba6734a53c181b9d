use Rattle.refuted_definitions.proofs.LayoutCases.{layouts_refuted}
use Rattle.refuted_definitions.proofs.laws.layouts_are_refuted.Goals as goal

pub returns : goal.returns
returns c = layouts_refuted c.addresses_are_only.ensures c.offsets_are_only.ensures c.blocks_are_only.ensures
