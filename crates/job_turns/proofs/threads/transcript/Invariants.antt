use Rattle.std.proofs.Common.{◌≡◌, map, take, []}
use Rattle.job_turns.specs.Standing.{Run}
use Rattle.job_turns.proofs.threads.transcript.Given as goal

-- the threads so far, and no event
abbrev pub invariant-loop-runner : goal.invariant-loop-runner
invariant-loop-runner l =
    (l.transcript.threads ≡ map (λ (r : Run). r.said) l.yielded) × (l.transcript.events ≡ [])

-- all threads, and the events so far
abbrev pub invariant-loop-event : goal.invariant-loop-event
invariant-loop-event l =
    (l.transcript.threads ≡ map (λ (r : Run). r.said) l.fn.all.threads.items)
    × (l.transcript.events ≡ take l.event-index l.event-items)
