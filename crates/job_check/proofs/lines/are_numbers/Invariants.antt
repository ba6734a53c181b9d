-- The bytes so far are numbers.
use Rattle.std.proofs.Common.{◌≡◌, drop}
use Rattle.std.specs.Prelude.{is_some}
use Rattle.job_meaning.specs.Marked.{values_of}
use Rattle.job_check.proofs.lines.are_numbers.Given as goal

abbrev pub invariant-loop-byte : goal.invariant-loop-byte
invariant-loop-byte l = is_some (values_of l.bytes) ≡ is_some (values_of (drop l.byte-index l.bytes))
