use Rattle.std.proofs.Common.{subst}
use Rattle.std.proofs.lemmas.Result.{IfOk-weaker}
use Rattle.thread_blocks.specs.Lines.{Line}
use Rattle.job_check.specs.Lines.{Starts}
use Rattle.job_check.proofs.PartsTaken.{begins_over, begins_runs}
use Rattle.job_check.proofs.thread.take_begin.Goals as goal

pub returns-in-Says : goal.returns-in-Says
returns-in-Says c =
    let line : Line = record { number = c.args.number; told = c.args.line.now } in
    begins_over c.args.fuel line c.args.table.now c.begin.new.table c.args.space.now c.begin.new.space c.in-Says.unclean
    (subst (λ s. Starts line c.args.table.now c.args.space.now s c.begin.new.table c.begin.new.space) c.in-Says.is c.in_ok-started.ensures)

pub returns-in-Calls : goal.returns-in-Calls
returns-in-Calls c =
    let line : Line = record { number = c.args.number; told = c.args.line.now } in
    let starts = subst (λ s. Starts line c.args.table.now c.args.space.now s c.begin.new.table c.begin.new.space) c.in-Calls.is
    c.in_ok-started.ensures in
    IfOk-weaker c.run_to.result _ _
    (λ taken runs. begins_runs c.args.fuel line c.args.table.now c.begin.new.table c.args.space.now c.begin.new.space c.run_to.new.space
    c.in-Calls.state taken starts runs)
    c.run_to.ensures
