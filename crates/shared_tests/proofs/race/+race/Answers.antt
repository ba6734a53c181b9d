-- The halves' passes make one that is ready again.
use Rattle.std.proofs.Common.{◌≡◌, ◌+◌, ◌-◌, ◌/◌, sym, subst, rules, arith}
use Rattle.shared_tests.specs.Races.{IsReady}
use Rattle.shared_tests.proofs.Halves.{both_ready}
use Rattle.shared_tests.proofs.race.+race.Goals as goal

pub returns-clause-ready : goal.returns-clause-ready
returns-clause-ready g t c =
    let half = (c.args.count + 1) / 2 in
    let left : IsReady c.args.first half c.args.shared.now c.join-left.result.0.0 = search rules in
    let right : IsReady (c.args.first + half) (c.args.count - half) c.args.shared.now c.join-left.result.1.0 =
    search rules in
    let whole : half + (c.args.count - half) ≡ c.args.count = omega arith in
    subst (IsReady c.args.first c.args.count c.args.shared.now) (sym c.join.ensures.joined)
    (both_ready c.args.first half (c.args.count - half) c.args.count _ _ _ left right whole c.requires.few)
