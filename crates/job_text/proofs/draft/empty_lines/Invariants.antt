use Rattle.std.proofs.Common.{◌≡◌, [], map, replicate}
use Rattle.job_text.proofs.draft.empty_lines.Given as goal

abbrev pub invariant-loop-thread : goal.invariant-loop-thread
invariant-loop-thread l = map (λ lines. lines.items) l.all.items ≡ replicate l._thread []
