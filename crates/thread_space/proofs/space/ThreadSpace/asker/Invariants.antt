-- None so far has the words.
use Rattle.std.proofs.Common.{◌≡◌, drop}
use Rattle.std.specs.List.{find, list_any}
use Rattle.thread_blocks.specs.JobLoads.{job_loads}
use Rattle.thread_blocks.specs.RunTime.{has_words}
use Rattle.thread_space.specs.Kept.{live_in}
use Rattle.thread_space.proofs.space.ThreadSpace.asker.Given as goal

abbrev pub invariant-loop-instance : goal.invariant-loop-instance
invariant-loop-instance l =
    find (λ x. list_any (has_words l.address) ((job_loads l.self.vector.images).tables x))
    (live_in l.self.vector.images l.self.vector.past)
    ≡ find (λ x. list_any (has_words l.address) ((job_loads l.self.vector.images).tables x))
    (drop l.instance-index l.instance-items)
