-- The thread is one that the pass speaks for.
use Rattle.std.proofs.Common.{◌≤◌, List, ℕ, sym, subst}
use Rattle.shared_modules.specs.Views.{times}
use Rattle.shared_modules.specs.Threads.{first_named}
use Rattle.shared_tests.proofs.beside.add_events.Goals as goal

pub open-requires-clause-speaks : goal.open-requires-clause-speaks
open-requires-clause-speaks g c = let r = c.loop.invariant in
    subst (λ (ts : List ℕ). 1 ≤ times 33 ts) (sym r.threads) (first_named 33 32 r.some)
