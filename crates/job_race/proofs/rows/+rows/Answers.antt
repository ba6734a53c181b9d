-- Each half can race. Their passes make one that is ready again, and their rows one row.
use Rattle.std.proofs.Common.{◌≡◌, ◌+◌, ◌-◌, ◌/◌, ◌≤◌, IfOk, sym, subst, rules, arith}
use Rattle.shared_modules.specs.Passes.{PassView}
use Rattle.job_race.specs.Rows.{CanRace, HasRow, IsReady}
use Rattle.job_race.proofs.Joined.{results_joined}
use Rattle.job_race.proofs.Passes.{both_ready, left_can, right_can}
use Rattle.job_race.proofs.rows.+rows.Goals as goal

pub join-left-requires-after_bounds : goal.join-left-requires-after_bounds
join-left-requires-after_bounds g t c κs within =
    let m = g.T.Racers.all_images c.args.racers.now in
    let first = c.args.span.first in
    let count = c.args.span.count in
    let half = (count + 1) / 2 in
    let shared = c.args.shared.now in
    let two : 2 ≤ count = omega (arith, c.if-count-eq1.false, c.requires.can.ready.some) in
    let left : CanRace m first half shared c.halve-left.result.0 =
    subst (λ (r : PassView × PassView). CanRace m first half shared r.0) (sym c.halve-left.ensures)
    (left_can m first count shared c.args.pass c.requires.can two) in
    let right : CanRace m (first + half) (count - half) shared c.halve-left.result.1 =
    subst (λ (r : PassView × PassView). CanRace m (first + half) (count - half) shared r.1) (sym c.halve-left.ensures)
    (right_can m first count shared c.args.pass c.requires.can two) in
    search rules

pub returns-clause-ready : goal.returns-clause-ready
returns-clause-ready g t c =
    let half = (c.args.span.count + 1) / 2 in
    let whole : half + (c.args.span.count - half) ≡ c.args.span.count = omega arith in
    subst (IsReady c.args.span.first c.args.span.count c.args.shared.now) (sym c.join-pass.ensures.joined)
    (both_ready c.args.span.first half
    (c.args.span.count - half) c.args.span.count c.args.shared.now c.join-left.result.0.0
    c.join-left.result.1.0 c.join-left.ensures.first.0 c.join-left.ensures.second.0 whole c.requires.can.ready.few)

pub returns-clause-raced : goal.returns-clause-raced
returns-clause-raced g t c =
    let m = g.T.Racers.all_images c.args.racers.now in
    let job = g.T.Racers.whole_job c.args.racers.now in
    let first = c.args.span.first in
    let count = c.args.span.count in
    let half = (count + 1) / 2 in
    let whole : half + (count - half) ≡ count = omega arith in
    let p = c.join-left.result.0.0 in
    let q = c.join-left.result.1.0 in
    let left = subst (λ (r : PassView × PassView). IfOk c.join-left.result.0.1 (HasRow m job first half r.0 p))
    c.halve-left.ensures c.join-left.ensures.first.1 in
    let right = subst
    (λ (r : PassView × PassView). IfOk c.join-left.result.1.1 (HasRow m job (first + half) (count - half) r.1 q))
    c.halve-left.ensures c.join-left.ensures.second.1 in
    subst (λ (r : PassView). IfOk c.together-row.result (HasRow m job first count c.args.pass r))
    (sym c.join-pass.ensures.joined)
    (results_joined m job first half (count - half) count c.args.pass p q whole c.join-left.ensures.first.0.threads
    c.join-left.ensures.second.0.threads c.join-pass.ensures.agree c.join-left.result.0.1 c.join-left.result.1.1
    c.together-row.result left right c.together-row.ensures)
