-- How contracts see a thread of the code, and what else the code keeps true of it.
use Rattle.std.specs.Prelude.{◌≤◌, ◌<◌, ◌^◌, length}
use Rattle.job_check.specs.declared.thread.MeantThread.TheInside.{Inside}
use Rattle.job_check.specs.Standing.{Run}

abbrev pub run_of : Inside → Run
run_of r = record {
  lines = r.script.lines.now;
  fuel = r.script.fuel;
  begun = r.script.begun;
  kept = r.space;
  call = r.call;
  unclean = r.script.said;
}

pub record HoldsRun (r : Inside) : Type 0 where
  pub lines : length r.script.lines.now < 2 ^ 31
  pub begun : r.script.begun ≤ length r.script.lines.now
