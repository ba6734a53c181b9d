-- Each prefix that is read leaves fewer bytes.
use Rattle.std.proofs.Common.{length}
use Rattle.amd64_subset.proofs.prefix.+read_marks.Given as goal

abbrev pub decreases-read_marks : goal.decreases-read_marks
decreases-read_marks l = length l.bytes.now
