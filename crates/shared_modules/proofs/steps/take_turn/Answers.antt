-- The seat waits with its ticket until it is the one that is being served.
use Rattle.std.proofs.Common.{◌<◌, length, sym, ap, ◌∙◌, subst, arith}
use Rattle.shared_modules.specs.Plays.{Sat}
use Rattle.shared_modules.proofs.Locks.{sees}
use Rattle.shared_modules.proofs.steps.take_turn.Goals as goal

pub load-serving-requires : goal.load-serving-requires
load-serving-requires g c = let w = c.loop.invariant.waits in (
  c.loop.invariant.table ∙ c.requires.fits.0,
  omega (arith, c.requires.fits.1.0),
  sees _ _ _ _ w.turn (ap (λ (m : Sat). m.0.turn) w.me_is) (ap (λ (m : Sat). m.1) w.me_is)
      (subst (λ (m : Sat). 0 < length m.0.threads) (sym w.me_is) c.requires.speaks),
)
