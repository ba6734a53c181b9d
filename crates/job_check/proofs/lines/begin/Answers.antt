use Rattle.std.proofs.Common.{◌∙◌, sym, ap}
use Rattle.std.proofs.lemmas.Result.{IfOk-weaker}
use Rattle.job_text.specs.declared.thread_lines.Action.TheVariants.{Call, Peek}
use Rattle.thread_blocks.specs.Lines.{Line}
use Rattle.job_check.proofs.LinesBegun.{call_starts, peek_starts}
use Rattle.job_check.proofs.lines.begin.Goals as goal

pub returns-in-Call : goal.returns-in-Call
returns-in-Call c =
    let line : Line = record { number = c.args.number; told = c.args.line.now } in
    IfOk-weaker c.call.result _ _
    (λ started begins. call_starts line c.args.table.now c.args.table.now c.args.space.now c.call.new.space started c.as_bytes.result.now
    c.in-Call.a c.in-Call.b c.in-Call.c
    (c.in-Call.is ∙ ap (λ symbol. Call symbol c.in-Call.a c.in-Call.b c.in-Call.c)
    (sym (c.as_bytes.ensures.value ∙ c.as_str.ensures)))
    (begins c.args.number))
    c.call.ensures

pub returns-in-Peek : goal.returns-in-Peek
returns-in-Peek c =
    let line : Line = record { number = c.args.number; told = c.args.line.now } in
    IfOk-weaker c.peek.result _ _
    (λ started begins. peek_starts line c.args.table.now c.args.table.now c.args.space.now c.peek.new.space started
    c.as_bytes-in-Peek.result.now c.in-Peek.length
    (c.in-Peek.is ∙ ap (λ symbol. Peek symbol c.in-Peek.length)
    (sym (c.as_bytes-in-Peek.ensures.value ∙ c.as_str-in-Peek.ensures))) begins)
    c.peek.ensures
