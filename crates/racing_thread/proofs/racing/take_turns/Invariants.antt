-- The runner stands for the definition's thread, at the points so far.
use Rattle.shared_modules.specs.Passes.{IsSamePass}
use Rattle.racing_thread.proofs.Going.{Going}
use Rattle.racing_thread.proofs.racing.take_turns.Given as goal

abbrev pub invariant-loop : goal.invariant-loop
invariant-loop g l = record {
  same : IsSamePass l.fn.pass l.pass;
  going : Going l.course.names.now l.course.job.now l.thread l.fn.pass l.runner l.events.items l.pass;
}
