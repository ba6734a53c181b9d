-- What one thread of a job means by itself.
use Rattle.std.specs.Prelude.{ℕ, List, map, take}
use Rattle.job_text.specs.declared.thread_lines.ThreadLine.{ThreadLine}
use Rattle.module_table.specs.declared.events.Event.{Event}
use Rattle.thread_blocks.specs.JobWorlds.{numbered_lines, thread_ready}
use Rattle.thread_blocks.specs.Turns.{Said, ready, turns}
use Rattle.whole_meaning.specs.Meanings.{Meaning}
use Rattle.whole_meaning.specs.Threads.{meant_turns, ops}

-- what the lines of one thread mean, whatever other threads do, if its turns see this many events of a history, one
-- turn after another
abbrev pub thread_meaning : Meaning → ℕ → ℕ → List ThreadLine → List Event → List ℕ → List Said
thread_meaning m fuel thread lines history points =
    (turns (meant_turns m thread fuel) (ready (thread_ready ops m.loads thread) (numbered_lines 1 lines))
    (map (λ (number : ℕ). take number history) points)).said
