-- The pass with which a thread starts, and the one that it returns.
use Rattle.std.specs.Prelude.{◌≡◌, ◌+◌, ◌≤◌, ℕ}
use Rattle.shared_modules.specs.Views.{rising}
use Rattle.shared_modules.specs.Passes.{SharedView, PassView}

-- the pass belongs to this history, and speaks for `count` threads from the first on
pub record IsReady (first count : ℕ) (shared : SharedView) (p : PassView) : Type 0 where
  pub of : p.shared ≡ shared
  pub threads : p.threads ≡ rising first count
  pub some : 1 ≤ count
  pub few : first + count ≤ 65
