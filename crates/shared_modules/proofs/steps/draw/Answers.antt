-- Drawing a ticket keeps the rule.
use Rattle.std.proofs.Common.{arith}
use Rattle.shared_modules.proofs.Locks.{draws}
use Rattle.shared_modules.proofs.steps.draw.Goals as goal

pub fetch_add-requires : goal.fetch_add-requires
fetch_add-requires c = (
  c.requires.fits.0,
  omega (arith, c.requires.fits.1.0),
  draws _ _ _ _ c.requires.idle c.requires.speaks,
)
