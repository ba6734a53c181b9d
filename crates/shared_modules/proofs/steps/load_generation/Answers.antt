-- A load keeps the rule.
use Rattle.std.proofs.Common.{arith}
use Rattle.shared_modules.proofs.Grows.{loads}
use Rattle.shared_modules.proofs.steps.load_generation.Goals as goal

pub load-requires : goal.load-requires
load-requires c = (c.requires.fits.0, omega (arith, c.requires.fits.1.0), loads _ _ _ _ c.requires.speaks)
