use Rattle.std.proofs.Common.{◌≡◌}
use Rattle.image_faults.specs.Counts.{behind_last}
use Rattle.image_faults.proofs.Counts.{is_relro}
use Rattle.image_faults.proofs.searches.has_relro.Given as goal

abbrev pub invariant-loop-number : goal.invariant-loop-number
invariant-loop-number l = l.behind ≡ behind_last (is_relro l.headers.bytes.now) l.number
