-- Both halves keep the rule.
use Rattle.std.proofs.Common.{rules, arith}
use Rattle.shared_modules.proofs.Parts.{splits}
use Rattle.shared_modules.proofs.shared.Shared.split.Goals as goal

pub split_seat-other-requires : goal.split_seat-other-requires
split_seat-other-requires c = (search rules, omega (arith, c.self.invariant.0), splits _ _ _ c.pass.invariant.idle)
