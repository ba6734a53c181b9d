-- The thread is one that the pass speaks for.
use Rattle.std.proofs.Common.{◌≤◌, List, ℕ, sym, ◌∙◌, subst}
use Rattle.shared_modules.specs.Views.{times}
use Rattle.shared_modules.specs.Threads.{first_named}
use Rattle.shared_tests.proofs.race.open_and_close.Goals as goal

pub open-requires-clause-speaks : goal.open-requires-clause-speaks
open-requires-clause-speaks g c =
    subst (λ (ts : List ℕ). 1 ≤ times c.args.thread ts) (sym c.requires.threads)
    (first_named c.args.thread c.args.count c.requires.some)

pub close-requires-clause-speaks : goal.close-requires-clause-speaks
close-requires-clause-speaks g c =
    subst (λ (ts : List ℕ). 1 ≤ times c.args.thread ts) (sym (c.open.ensures.same.threads ∙ c.requires.threads))
    (first_named c.args.thread c.args.count c.requires.some)
