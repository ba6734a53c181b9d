-- Both halves have a thread.
use Rattle.job_race.proofs.Passes.{two_threads}
use Rattle.job_race.proofs.rows.halve.Goals as goal

pub split-requires-clause-two : goal.split-requires-clause-two
split-requires-clause-two c = two_threads _ _ _ _ c.requires.ready c.requires.two
