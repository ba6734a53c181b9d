-- The transcript of a job's threads.
use Rattle.std.specs.Prelude.{map}
use Rattle.job_turns.specs.Progress.{Runners}
use Rattle.transcript_text.specs.Texts.{Shown}

-- the lines of the threads that are over, and the events so far
abbrev pub transcript_of : Runners → Shown
transcript_of x = record { threads = map (λ r. r.said) x.runs; events = x.shared.registry.events }
