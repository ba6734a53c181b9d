use Rattle.std.proofs.Common.{◌≡◌, ◌+◌, drop, length}
use Rattle.job_text.specs.Jobs.{job_from, job_of}
use Rattle.job_text.specs.Words.{lines_of}
use Rattle.job_text.proofs.jobs.Job.read.Given as goal

-- what is declared so far and the lines that are left make the job
abbrev pub invariant-loop-index : goal.invariant-loop-index
invariant-loop-index l =
    job_from l.draft (length l.yielded + 1) (drop (length l.yielded) (lines_of l.bytes)) ≡ job_of l.bytes
