-- The first turn, one turn more, and the last.
use Rattle.std.proofs.Common.{◌∙◌, ap, refl, sym, subst}
use Rattle.shared_modules.specs.Passes.{SharedView}
use Rattle.job_turns.specs.Standing.{IsGoing}
use Rattle.racing_thread.specs.Racing.{HasRaced}
use Rattle.job_turns.proofs.OneTurn.{is_done_done}
use Rattle.racing_thread.proofs.Ends.{ends, going_is, same_along, starts}
use Rattle.racing_thread.proofs.Going.{Going, goes_on}
use Rattle.racing_thread.proofs.racing.take_turns.Goals as goal

pub loop-init : goal.loop-init
loop-init g c = record {
  same = record { shared = refl; threads = refl };
  going = subst
      (λ events. Going c.args.course.now.names.now c.args.course.now.job.now c.args.thread c.args.pass.now c.in_ok-runner.runner events c.args.pass.now)
      (sym c.new-events.ensures.items)
      (starts c.args.course.now.names.now c.args.course.now.job.now c.args.thread c.args.pass.now c.in_ok-runner.runner c.in_ok-runner.ensures
      c.requires.alone c.requires.fresh (ap (λ (s : SharedView). s.images) c.requires.of ∙ c.requires.images)
      c.requires.data c.history_is_lawful.ensures);
}

pub returns-then-is_done-clause-raced : goal.returns-then-is_done-clause-raced
returns-then-is_done-clause-raced g c =
    subst (λ said. HasRaced c.args.course.now.names.now c.args.course.now.job.now c.args.thread c.args.pass.now c.loop.pass said c.loop.events.items)
    (sym c.lines-lines.ensures)
    (ends c.args.course.now.names.now c.args.course.now.job.now c.args.thread c.args.pass.now c.loop.runner c.loop.events.items c.loop.pass
    c.loop.invariant.going
    (sym c.asks-ask.ensures ∙ is_done_done c.asks-ask.result (sym c.is_done.ensures ∙ c.if-is_done.true))
    (c.requires.low, c.requires.high))

pub loop-preserved : goal.loop-preserved
loop-preserved g c = record {
  same = same_along c.args.pass.now c.loop.pass c.take_turn.new.pass c.loop.invariant.same c.take_turn.ensures.same;
  going = goes_on c.args.course.now.names.now c.args.course.now.job.now c.args.thread c.args.pass.now c.loop.runner c.loop.events.items c.loop.pass
      c.loop.invariant.going c.take_turn.new.events.items c.take_turn.new.pass c.in_ok-runner-2.runner
      c.in_ok-runner-2.ensures.takes c.take_turn.ensures.same
      (subst IsGoing c.asks-ask.ensures (going_is c.asks-ask.result (sym c.is_done.ensures ∙ c.if-is_done.false)));
}
