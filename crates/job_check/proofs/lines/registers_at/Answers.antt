use Rattle.std.proofs.Common.{ℕ, ◌∙◌, ◌-◌, sym, ap, arith}
use Rattle.address_map.specs.Map.{stack_end}
use Rattle.guest_operands.specs.declared.state.State.{State}
use Rattle.guest_operands.specs.State.{start_of}
use Rattle.job_meaning.specs.declared.values.Flag.{Flag}
use Rattle.job_meaning.specs.declared.values.Word.{Word}
use Rattle.job_meaning.specs.declared.values.Word.TheVariants.{Number}
use Rattle.whole_meaning.specs.Threads.{ops}
use Rattle.job_check.proofs.LinesBegun.{marked_start}
use Rattle.job_check.proofs.lines.registers_at.Goals as goal

pub returns : goal.returns
returns c =
    let pointed : State Word Flag → State Word Flag = λ s. record s { thread_pointer = c.thread_pointer.result } in
    let started : ℕ → State Word Flag = λ stack.
    record (start_of ops c.args.place (stack - 8) (Number c.args.given.a) (Number c.args.given.b)
    (Number c.args.given.c))
    { thread_pointer = c.thread_pointer.result } in
    let placed : ℕ → State Word Flag = λ pointer.
    record (start_of ops c.args.place (stack_end c.args.thread - 8) (Number c.args.given.a) (Number c.args.given.b)
    (Number c.args.given.c))
    { thread_pointer = pointer } in
    ap pointed c.start-state.ensures ∙ ap started c.stack_end-stack.ensures ∙ ap placed c.thread_pointer.ensures
    ∙ sym (marked_start c.args.thread c.args.place c.args.given.a c.args.given.b c.args.given.c (omega arith)
    (omega arith) (omega arith))
