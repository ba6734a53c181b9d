-- The lines of a thread, as it runs them.
use Rattle.std.specs.Prelude.{◌≡◌, ◌<◌, ◌^◌, ℕ, length}
use Rattle.job_text.specs.Jobs.{JobParts}
use Rattle.job_text.specs.Threads.{of_thread}
use Rattle.thread_turns.specs.declared.parts.Script.{Script}

-- no line has begun
pub record IsFirstScript {S : Type 0} (thread : ℕ) (job : JobParts) (first : S) (s : Script S) : Type 0 where
  pub lines : s.lines.now ≡ of_thread job.lines thread
  pub few : length s.lines.now < 2 ^ 31
  pub fuel : s.fuel ≡ job.fuel
  pub little : s.fuel < 2 ^ 32
  pub begun : s.begun ≡ 0
  pub said : s.said ≡ first
