use Rattle.std.proofs.Common.{◌≡◌, map, take, []}
use Rattle.job_race.proofs.row.Row.transcript.Given as goal

-- the threads so far, and no event
abbrev pub invariant-loop-lines : goal.invariant-loop-lines
invariant-loop-lines l = (l.transcript.threads ≡ map (λ lines. lines.items) l.yielded) × (l.transcript.events ≡ [])

-- all threads, and the events so far
abbrev pub invariant-loop-event : goal.invariant-loop-event
invariant-loop-event l =
    (l.transcript.threads ≡ l.fn.self.threads) × (l.transcript.events ≡ take l.event-index l.event-items)
