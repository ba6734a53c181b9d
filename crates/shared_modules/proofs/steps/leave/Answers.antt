-- Serving the next ticket keeps the rule.
use Rattle.std.proofs.Common.{arith}
use Rattle.shared_modules.proofs.Locks.{leaves}
use Rattle.shared_modules.proofs.steps.leave.Goals as goal

pub fetch_add-served-requires : goal.fetch_add-served-requires
fetch_add-served-requires c = (
  c.requires.fits.0,
  omega (arith, c.requires.fits.1.0),
  leaves _ _ _ _ c.requires.ends.0 c.requires.ends.1 c.requires.ends.2,
)
