use Rattle.std.proofs.Common.{length}
use Rattle.link_core.proofs.pieces.+fill_each.Given as goal

abbrev pub decreases-fill_each : goal.decreases-fill_each
decreases-fill_each l = length l.parts.now
