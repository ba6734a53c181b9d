use Rattle.std.proofs.Common.{◌∙◌, refl, sym, ap, ℕ}
use Rattle.std.proofs.lemmas.Result.{IfOk-weaker}
use Rattle.job_text.specs.declared.thread_lines.Action.TheVariants.{Call, Peek}
use Rattle.thread_blocks.specs.Lines.{Line}
use Rattle.job_turns.specs.Starting.{BeginsCall, BeginsClose, BeginsOpen, BeginsPeek, Starts}
use Rattle.job_turns.proofs.OpensBegun.{call_starts, close_refused, close_said, close_starts, open_refused, open_said}
use Rattle.job_turns.proofs.OpensBegun.{open_starts, peek_starts}
use Rattle.job_turns.proofs.lines.begin.Goals as goal

pub returns-in-Call-clause-starts : goal.returns-in-Call-clause-starts
returns-in-Call-clause-starts c =
    let line : Line = record { number = c.args.number; told = c.args.line.now } in
    IfOk-weaker c.call.result
    (λ started. BeginsCall c.args.line.now.image c.as_bytes.result.now c.in-Call.a c.in-Call.b c.in-Call.c c.args.space.now started c.call.new.space)
    (λ started. Starts line c.args.space.now started c.call.new.space)
    (λ started begins. call_starts line c.args.space.now c.call.new.space started c.as_bytes.result.now c.in-Call.a c.in-Call.b c.in-Call.c
    (c.in-Call.is ∙ ap (λ symbol. Call symbol c.in-Call.a c.in-Call.b c.in-Call.c)
    (sym (c.as_bytes.ensures.value ∙ c.as_str.ensures))) begins)
    c.call.ensures.begins

pub returns-in-Peek-clause-starts : goal.returns-in-Peek-clause-starts
returns-in-Peek-clause-starts c =
    let line : Line = record { number = c.args.number; told = c.args.line.now } in
    IfOk-weaker c.peek.result
    (λ started. (number : ℕ)
    → BeginsPeek (record {
      number = number;
      told = c.args.line.now;
    }) c.as_bytes-in-Peek.result.now c.in-Peek.length c.args.space.now started c.peek.new.space)
    (λ started. Starts line c.args.space.now started c.peek.new.space)
    (λ started begins. peek_starts line c.args.space.now c.peek.new.space started c.as_bytes-in-Peek.result.now c.in-Peek.length
    (c.in-Peek.is ∙ ap (λ symbol. Peek symbol c.in-Peek.length)
    (sym (c.as_bytes-in-Peek.ensures.value ∙ c.as_str-in-Peek.ensures))) (begins c.args.number))
    c.peek.ensures.begins

-- ** opens and closes, by what the registry said

pub returns-in-Ok-clause-starts : goal.returns-in-Ok-clause-starts
returns-in-Ok-clause-starts c =
    let line : Line = record { number = c.args.number; told = c.args.line.now } in
    IfOk-weaker c.open.result (λ started. BeginsOpen line c.args.space.now started c.open.new.space)
    (λ started. Starts line c.args.space.now started c.open.new.space)
    (λ started begins. open_starts line c.args.space.now c.open.new.space started c.in-Open.is begins) c.open.ensures.begins

pub returns-in-Err-clause-starts : goal.returns-in-Err-clause-starts
returns-in-Err-clause-starts c =
    let line : Line = record { number = c.args.number; told = c.args.line.now } in
    let said = c.open_answer.ensures _
    (open_said c.args.space.now.vector.past c.args.number _ _ c.args.answer c.in-Open.is c.requires.answer) in
    rw c.refused.ensures
    (open_starts line c.args.space.now c.args.space.now _ c.in-Open.is
    (open_refused c.args.space.now line _ c.in-Err.refusal _ refl (sym c.in-Err.is ∙ said)))

pub returns-in-Ok-close_answer-clause-starts : goal.returns-in-Ok-close_answer-clause-starts
returns-in-Ok-close_answer-clause-starts c =
    let line : Line = record { number = c.args.number; told = c.args.line.now } in
    IfOk-weaker c.close.result (λ started. BeginsClose line c.args.space.now started c.close.new.space)
    (λ started. Starts line c.args.space.now started c.close.new.space)
    (λ started begins. close_starts line c.args.space.now c.close.new.space started c.in-Close.is begins) c.close.ensures.begins

pub returns-in-Err-close_answer-clause-starts : goal.returns-in-Err-close_answer-clause-starts
returns-in-Err-close_answer-clause-starts c =
    let line : Line = record { number = c.args.number; told = c.args.line.now } in
    let said = c.close_answer.ensures _
    (close_said c.args.space.now.vector.past c.args.number _ _ c.args.answer c.in-Close.is c.requires.answer) in
    rw c.refused-in-Err-close_answer.ensures
    (close_starts line c.args.space.now c.args.space.now _ c.in-Close.is
    (close_refused c.args.space.now line _ c.in-Err-close_answer.refusal _ refl (sym c.in-Err-close_answer.is ∙ said)))
