use Rattle.std.proofs.Common.{◌≡◌}
use Rattle.image_faults.specs.Counts.{leading}
use Rattle.image_faults.proofs.Counts.{is_load}
use Rattle.image_faults.proofs.searches.load_count.Given as goal

abbrev pub invariant-loop-number : goal.invariant-loop-number
invariant-loop-number l = leading (is_load l.headers.bytes.now) l.number ≡ l.number
