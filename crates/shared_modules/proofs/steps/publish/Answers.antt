-- Publishing keeps the rule.
use Rattle.std.proofs.Common.{arith}
use Rattle.shared_modules.proofs.Grows.{publishes}
use Rattle.shared_modules.proofs.steps.publish.Goals as goal

pub fetch_add-requires : goal.fetch_add-requires
fetch_add-requires c = (
  c.requires.fits.0,
  omega (arith, c.requires.fits.1.0),
  publishes _ _ _ _ c.requires.adds.0 c.requires.adds.1 c.requires.adds.2 c.requires.adds.3,
)
