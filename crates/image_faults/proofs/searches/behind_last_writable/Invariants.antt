use Rattle.std.proofs.Common.{◌≡◌, ◌≤◌}
use Rattle.image_faults.specs.Counts.{behind_last}
use Rattle.image_faults.specs.Parts.{is_writable}
use Rattle.image_faults.proofs.searches.behind_last_writable.Given as goal

abbrev pub invariant-loop-number : goal.invariant-loop-number
invariant-loop-number l = record {
  found : l.behind ≡ behind_last (is_writable l.headers.bytes.now) l.number;
  few : l.behind ≤ l.number;
}
