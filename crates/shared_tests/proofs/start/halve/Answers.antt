-- Both halves are ready.
use Rattle.std.proofs.Common.{◌+◌, ◌-◌, ◌/◌, sym, subst}
use Rattle.shared_modules.specs.Passes.{PassView}
use Rattle.shared_tests.specs.Races.{IsReady}
use Rattle.shared_tests.proofs.Halves.{two_threads, left_ready, right_ready}
use Rattle.shared_tests.proofs.start.halve.Goals as goal

pub split-requires-clause-two : goal.split-requires-clause-two
split-requires-clause-two c = two_threads _ _ _ _ c.requires.ready c.requires.two

pub returns-clause-left : goal.returns-clause-left
returns-clause-left c =
    subst (λ (r : PassView × PassView). IsReady c.args.first ((c.args.count + 1) / 2) c.args.shared.now r.0)
    (sym c.split.ensures) (left_ready _ _ _ _ c.requires.ready c.requires.two)

pub returns-clause-right : goal.returns-clause-right
returns-clause-right c =
    subst (λ (r : PassView × PassView). IsReady (c.args.first + (c.args.count + 1) / 2)
    (c.args.count - (c.args.count + 1) / 2) c.args.shared.now r.1) (sym c.split.ensures)
    (right_ready _ _ _ _ c.requires.ready c.requires.two)
