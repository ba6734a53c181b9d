-- The two seats become one, and tell what they learnt.
use Rattle.std.proofs.Common.{rules, arith}
use Rattle.shared_modules.proofs.Parts.{joins}
use Rattle.shared_modules.proofs.shared.Shared.join.Goals as goal

pub join_seat-requires : goal.join_seat-requires
join_seat-requires c = (
  search rules,
  search rules,
  c.second.invariant.bare,
  omega (arith, c.self.invariant.0),
  joins _ _ _ _ _ c.first.invariant.idle c.second.invariant.idle c.first.invariant.speaks c.second.invariant.speaks,
)
