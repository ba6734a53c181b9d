use Rattle.std.proofs.Common.{◌-◌, sym, ◌∙◌, subst}
use Rattle.guest_machine.specs.Clean.{IsClean}
use Rattle.thread_space.specs.Kept.{memory_of}
use Rattle.job_turns.proofs.RunTurns.{run_answered, run_over}
use Rattle.job_turns.proofs.running.run_part.Goals as goal

pub returns-then-is_asking : goal.returns-then-is_asking
returns-then-is_asking c =
    run_answered c.args.limit c.run-stop.result c.args.machine.now c.args.space.now c.run-stop.new.self c.run-stop.new.space
    c.requires c.run-stop.ensures.rest c.run-stop.ensures.runs (sym c.is_asking.ensures ∙ c.if-is_asking.true)
    c.answer_at_once.result c.answer_at_once.new.machine c.answer_at_once.new.space c.answer_at_once.ensures

pub returns-else-is_asking : goal.returns-else-is_asking
returns-else-is_asking c =
    run_over c.args.limit c.run-stop.result c.args.machine.now c.args.space.now c.run-stop.new.self c.run-stop.new.space
    c.requires c.run-stop.ensures.rest c.run-stop.ensures.runs (sym c.is_asking.ensures ∙ c.if-is_asking.false)
    (subst IsClean (sym c.run-stop.ensures.runs.stop)
    (c.plain_is_clean.ensures (c.args.limit - c.args.machine.now.taken) c.args.machine.now.state
    (memory_of c.args.space.now)))
