-- A load tells what was learnt.
use Rattle.std.proofs.Common.{arith}
use Rattle.shared_modules.proofs.Locks.{learns}
use Rattle.shared_modules.proofs.steps.learn.Goals as goal

pub load-requires : goal.load-requires
load-requires c = (c.requires.fits.0, omega (arith, c.requires.fits.1.0), learns _ _ _ _)
