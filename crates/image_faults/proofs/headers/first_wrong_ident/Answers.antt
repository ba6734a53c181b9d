use Rattle.std.proofs.Common.{arith}
use Rattle.image_faults.proofs.headers.first_wrong_ident.Goals as goal

pub returns-then-header-index : goal.returns-then-header-index
returns-then-header-index c = ((omega arith, c.if-header-index.true), c.loop-index.invariant)
