use Rattle.std.proofs.Common.{length}
use Rattle.job_meaning.proofs.marked.+number.Given as goal

abbrev pub decreases-number : goal.decreases-number
decreases-number l = length l.bytes.now
