use Rattle.std.proofs.Common.{◌≡◌, ◌≤◌}
use Rattle.image_faults.specs.Counts.{how_many}
use Rattle.image_faults.specs.Parts.{is_writable}
use Rattle.image_faults.proofs.searches.written_below.Given as goal

abbrev pub invariant-loop-number : goal.invariant-loop-number
invariant-loop-number l = record {
  counted : l.count ≡ how_many (is_writable l.headers.bytes.now) l.number;
  few : l.count ≤ l.number;
}
