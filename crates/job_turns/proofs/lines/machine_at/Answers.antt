use Rattle.std.proofs.Common.{◌∙◌, ◌-◌, sym, ap, arith}
use Rattle.address_map.specs.Map.{stack_end}
use Rattle.guest_arithmetic.specs.Plain.{plain_operations}
use Rattle.guest_machine.specs.State.{start_of}
use Rattle.thread_blocks.proofs.Calls.{plain_start}
use Rattle.job_turns.proofs.lines.machine_at.Goals as goal

pub returns-clause-state : goal.returns-clause-state
returns-clause-state c =
    ap (λ m. m.state) c.set_thread_pointer.ensures
    ∙ ap (λ m. record m.state { thread_pointer = c.thread_pointer.result }) c.start-machine.ensures
    ∙ ap (λ s. record (start_of plain_operations c.args.place (s - 8) c.args.given.a c.args.given.b c.args.given.c)
    { thread_pointer = c.thread_pointer.result }) c.stack_end-stack.ensures
    ∙ ap (λ t. record (start_of plain_operations c.args.place
    (stack_end c.args.thread - 8) c.args.given.a c.args.given.b c.args.given.c)
    { thread_pointer = t }) c.thread_pointer.ensures
    ∙ sym (plain_start c.args.thread c.args.place c.args.given.a c.args.given.b c.args.given.c (omega arith)
    (omega arith) (omega arith))
