-- The thread is one that the pass speaks for.
use Rattle.std.proofs.Common.{◌≤◌, List, ℕ, sym, ◌∙◌, subst}
use Rattle.shared_modules.specs.Views.{times}
use Rattle.shared_modules.specs.Threads.{first_named}
use Rattle.sharing_benchmark.proofs.open.Goals as goal

pub open-requires-clause-speaks : goal.open-requires-clause-speaks
open-requires-clause-speaks g c = let r = c.loop.invariant in
    subst (λ (ts : List ℕ). 1 ≤ times c.args.first ts) (sym r.threads) (first_named c.args.first c.args.count r.some)

pub close-requires-clause-speaks : goal.close-requires-clause-speaks
close-requires-clause-speaks g c = let r = c.loop.invariant in
    subst (λ (ts : List ℕ). 1 ≤ times c.args.first ts) (sym (c.open.ensures.same.threads ∙ r.threads))
    (first_named c.args.first c.args.count r.some)
