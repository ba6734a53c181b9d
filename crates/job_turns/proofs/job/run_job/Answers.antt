use Rattle.std.proofs.Common.{◌*◌, subst, arith}
use Rattle.thread_blocks.specs.Turns.{finishing}
use Rattle.thread_turns.specs.Orders.{TakesTurns, progress}
use Rattle.thread_turns.proofs.Orders.{same_runs, still_fit}
use Rattle.job_turns.specs.Progress.{Share, is_over}
use Rattle.job_turns.specs.Turning.{CanTurnIn, TurnedIn}
use Rattle.job_turns.proofs.LastTurn.{all_named, all_shown, first_some}
use Rattle.job_turns.proofs.Orders.{stay_fit}
use Rattle.job_turns.proofs.job.run_job.Goals as goal

pub take_order-requires-clause-laws : goal.take_order-requires-clause-laws
take_order-requires-clause-laws c = stay_fit

pub take_order-requires-clause-fit : goal.take_order-requires-clause-fit
take_order-requires-clause-fit c =
    first_some c.args.modules.now c.args.job.now (progress c.in_ok-threads.threads) c.in_ok-threads.ensures.first

pub finish-requires-clause-laws : goal.finish-requires-clause-laws
finish-requires-clause-laws c = stay_fit

pub finish-requires-clause-fit : goal.finish-requires-clause-fit
finish-requires-clause-fit c =
    still_fit is_over TurnedIn CanTurnIn Share stay_fit (progress c.in_ok-threads.threads)
    (progress c.take_order.new.self)
    c.order.result.now
    (first_some c.args.modules.now c.args.job.now (progress c.in_ok-threads.threads) c.in_ok-threads.ensures.first)
    c.in_ok-take_order.ensures

pub transcript-requires : goal.transcript-requires
transcript-requires c =
    let job = c.args.job.now in
    let then = progress c.take_order.new.self in
    let as_many = same_runs is_over TurnedIn (progress c.in_ok-threads.threads) then c.order.result.now
    c.in_ok-take_order.ensures in
    let at_end = same_runs is_over TurnedIn then (progress c.finish.new.self) (finishing (4 * job.fuel) 1 job.lines)
    c.in_ok-finish.ensures in
    omega (arith, as_many, at_end, c.in_ok-threads.ensures.few)

pub returns-clause-transcript : goal.returns-clause-transcript
returns-clause-transcript c =
    let takes = subst (λ order. TakesTurns is_over TurnedIn (progress c.in_ok-threads.threads) order
    (progress c.take_order.new.self)) c.order.ensures.value c.in_ok-take_order.ensures in
    all_shown c.args.modules.now c.args.job.now (progress c.in_ok-threads.threads) (progress c.take_order.new.self)
    (progress c.finish.new.self) c.in_ok-threads.ensures.first takes c.in_ok-finish.ensures c.transcript.result
    c.transcript.ensures

pub returns-clause-images : goal.returns-clause-images
returns-clause-images c =
    let takes = subst (λ order. TakesTurns is_over TurnedIn (progress c.in_ok-threads.threads) order
    (progress c.take_order.new.self)) c.order.ensures.value c.in_ok-take_order.ensures in
    all_named c.args.modules.now c.args.job.now (progress c.in_ok-threads.threads) (progress c.take_order.new.self)
    (progress c.finish.new.self) c.in_ok-threads.ensures.first takes c.in_ok-finish.ensures c.transcript.result
    c.requires c.transcript.ensures
