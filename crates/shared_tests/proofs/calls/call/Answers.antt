-- The thread is one that the pass speaks for.
use Rattle.std.proofs.Common.{◌≤◌, List, ℕ, sym, subst}
use Rattle.shared_modules.specs.Views.{times}
use Rattle.shared_modules.specs.Threads.{first_named}
use Rattle.shared_tests.proofs.calls.call.Goals as goal

pub open-answer-requires-clause-speaks : goal.open-answer-requires-clause-speaks
open-answer-requires-clause-speaks g c =
    subst (λ (ts : List ℕ). 1 ≤ times c.args.event.thread ts) (sym c.requires.threads)
    (first_named c.args.event.thread 32 c.requires.some)

pub close-answer-requires-clause-speaks : goal.close-answer-requires-clause-speaks
close-answer-requires-clause-speaks g c =
    subst (λ (ts : List ℕ). 1 ≤ times c.args.event.thread ts) (sym c.requires.threads)
    (first_named c.args.event.thread 32 c.requires.some)
