use Rattle.std.proofs.Common.{sym}
use Rattle.image_file.proofs.image.image_is_spelled.Goals as goal

pub returns : goal.returns
returns c = (c.image.inside.bytes.items, (c.image.invariant.0, sym c.image.view_is))
