use Rattle.std.proofs.Common.{◌+◌, ◌*◌}
use Rattle.link_core.proofs.pieces.+shares.Given as goal

abbrev pub decreases-fill : goal.decreases-fill
decreases-fill g l = 2 * l.threads

abbrev pub decreases-fill_back : goal.decreases-fill_back
decreases-fill_back g l = 2 * l.fewer + 1
