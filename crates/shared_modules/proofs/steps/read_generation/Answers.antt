-- A load with the registry in hand keeps the rule.
use Rattle.std.proofs.Common.{arith}
use Rattle.shared_modules.proofs.Grows.{catches}
use Rattle.shared_modules.proofs.steps.read_generation.Goals as goal

pub load-requires : goal.load-requires
load-requires c = (
  c.requires.fits.0,
  omega (arith, c.requires.fits.1.0),
  catches _ _ _ _ c.requires.holds.0 c.requires.holds.1 c.requires.holds.2 c.requires.speaks,
)
