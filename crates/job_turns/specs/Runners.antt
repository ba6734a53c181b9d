-- A runner as contracts see it, and the invariant that the code keeps.
use Rattle.std.specs.Prelude.{◌≡◌, ◌≤◌, ◌<◌, ◌*◌, ◌^◌, ℕ, length, Option, Some, None}
use Rattle.job_turns.specs.declared.runner.Runner.TheInside.{Inside}
use Rattle.thread_space.specs.Live.{HasStartups}
use Rattle.job_turns.specs.Standing.{Run, Waiting}

abbrev pub run_of : Inside → Run
run_of r = record {
  lines = r.script.lines.now;
  begun = r.script.begun;
  fuel = r.script.fuel;
  kept = r.space;
  call = r.call;
  said = r.script.said.items;
}

-- a call that waits has a step left for its look
abbrev pub HasSteps : ℕ → Option Waiting → Type 0
HasSteps fuel None = Unit {0}
HasSteps fuel (Some c) = c.machine.taken < 4 * fuel

pub record HoldsRun (r : Inside) : Type 0 where
  pub names : r.names.now ≡ r.space.vector.images
  pub startups : HasStartups r.space.vector
  pub fuel : r.script.fuel < 2 ^ 32
  pub lines : length r.script.lines.now < 2 ^ 31
  pub begun : r.script.begun ≤ length r.script.lines.now
  pub steps : HasSteps r.script.fuel r.call
