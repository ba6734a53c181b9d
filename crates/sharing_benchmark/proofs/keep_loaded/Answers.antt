-- Thread 1 is one that the pass speaks for.
use Rattle.std.proofs.Common.{◌≤◌, List, ℕ, sym, subst}
use Rattle.shared_modules.specs.Views.{times}
use Rattle.shared_modules.specs.Threads.{first_named}
use Rattle.sharing_benchmark.proofs.keep_loaded.Goals as goal

pub open-requires-clause-speaks : goal.open-requires-clause-speaks
open-requires-clause-speaks g c =
    subst (λ (ts : List ℕ). 1 ≤ times 1 ts) (sym c.requires.threads) (first_named 1 64 c.requires.some)
