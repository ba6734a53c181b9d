use Rattle.std.proofs.Common.{◌∙◌, sym, ap}
use Rattle.guest_arithmetic.specs.Plain.{plain_operations}
use Rattle.thread_blocks.specs.JobLoads.{job_loads}
use Rattle.thread_blocks.specs.MachineTurns.{call_start}
use Rattle.job_turns.proofs.LinesBegun.{call_begins, call_closed, call_unknown}
use Rattle.job_turns.proofs.lines.call.Goals as goal

pub returns-in_default-clause-begins : goal.returns-in_default-clause-begins
returns-in_default-clause-begins c =
    rw c.refused.ensures
    (call_closed c.args.space.now c.args.image c.args.symbol.now c.args.given.a c.args.given.b c.args.given.c
    (sym c.in_default.ensures))

pub returns-in_default-function-clause-begins : goal.returns-in_default-function-clause-begins
returns-in_default-function-clause-begins c =
    rw c.refused-in_default-function.ensures
    (call_unknown c.args.space.now c.args.image c.args.symbol.now c.args.given.a c.args.given.b c.args.given.c c.in-Some.instance (sym c.in-Some.ensures)
    (ap (λ m. (job_loads m).function c.in-Some.instance c.args.symbol.now) (sym c.requires)
    ∙ sym c.in_default-function.ensures))

pub returns-clause-begins : goal.returns-clause-begins
returns-clause-begins c =
    let fresh = c.in_ok-renew_stack.ensures.ok in
    let thread = c.thread.ensures.value ∙ ap (λ v. v.thread) fresh.vector in
    call_begins c.args.space.now c.args.image c.args.symbol.now c.args.given.a c.args.given.b c.args.given.c c.in-Some.instance c.in-Some-function.place
    c.renew_stack.new.self c.machine_at.result (sym c.in-Some.ensures)
    (ap (λ m. (job_loads m).function c.in-Some.instance c.args.symbol.now) (sym c.requires)
    ∙ sym c.in-Some-function.ensures) fresh
    (c.machine_at.ensures.state
    ∙ ap (λ t. call_start plain_operations t c.in-Some-function.place c.args.given.a c.args.given.b c.args.given.c) thread)
    c.machine_at.ensures.fresh
