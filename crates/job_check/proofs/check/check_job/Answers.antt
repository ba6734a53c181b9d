use Rattle.std.proofs.Common.{◌∙◌, ap, subst}
use Rattle.thread_turns.specs.Orders.{TakesTurns, progress}
use Rattle.thread_turns.proofs.Orders.{still_fit}
use Rattle.job_check.specs.Progress.{CanTurn, Share, Turned, first_unclean}
use Rattle.job_check.specs.Standing.{is_done}
use Rattle.job_check.proofs.FirstTurn.{first_some}
use Rattle.job_check.proofs.Orders.{stay_fit}
use Rattle.job_check.proofs.Verdicts.{whole_verdict}
use Rattle.job_check.proofs.check.check_job.Goals as goal

pub take_order-requires-clause-laws : goal.take_order-requires-clause-laws
take_order-requires-clause-laws c = stay_fit

pub take_order-requires-clause-fit : goal.take_order-requires-clause-fit
take_order-requires-clause-fit c =
    first_some c.args.images.now c.args.job.now (progress c.in_ok-threads.threads) c.in_ok-threads.ensures

pub finish-requires-clause-laws : goal.finish-requires-clause-laws
finish-requires-clause-laws c = stay_fit

pub finish-requires-clause-fit : goal.finish-requires-clause-fit
finish-requires-clause-fit c =
    still_fit is_done Turned CanTurn Share stay_fit (progress c.in_ok-threads.threads) (progress c.take_order.new.self)
    c.order.result.now
    (first_some c.args.images.now c.args.job.now (progress c.in_ok-threads.threads) c.in_ok-threads.ensures)
    c.in_ok-take_order.ensures

pub returns : goal.returns
returns c =
    let takes = subst (λ order. TakesTurns is_done Turned (progress c.in_ok-threads.threads) order
    (progress c.take_order.new.self)) c.order.ensures.value c.in_ok-take_order.ensures in
    c.verdict.ensures
    ∙ ap first_unclean c.deref.ensures.value
    ∙ whole_verdict c.args.images.now c.args.job.now (progress c.in_ok-threads.threads) (progress c.take_order.new.self)
    (progress c.finish.new.self) c.in_ok-threads.ensures takes c.in_ok-finish.ensures
