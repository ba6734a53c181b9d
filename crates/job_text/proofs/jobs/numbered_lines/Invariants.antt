use Rattle.std.proofs.Common.{◌≡◌, map}
use Rattle.job_text.specs.Jobs.{numbered_line}
use Rattle.job_text.proofs.jobs.numbered_lines.Given as goal

abbrev pub invariant-loop-lines : goal.invariant-loop-lines
invariant-loop-lines l =
    map (λ lines. lines.items) l.all.items ≡ map (λ lines. map (numbered_line l.starts) lines.items) l.yielded
