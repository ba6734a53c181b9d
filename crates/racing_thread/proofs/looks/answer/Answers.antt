-- What the shared history tells of an open or a close, as a turn has it.
use Rattle.racing_thread.proofs.Found.{closes, not_closes, close_refused, opens, not_opens, open_refused}
use Rattle.racing_thread.proofs.looks.answer.Goals as goal

pub returns-in-Ok-clause-answers : goal.returns-in-Ok-clause-answers
returns-in-Ok-clause-answers g c =
    rw (c.in-Opens.is, c.open-in-Ok.ensures)
    (opens c.args.pass.now c.args.events.now.items c.requires.all c.open.new.pass c.open.new.into.items c.args.thread
    c.in-Opens.line c.in-Opens.image c.in-Ok.opened c.in-Ok.ensures.opened)

pub returns-in_ok-refused_open-in-Err-clause-answers : goal.returns-in_ok-refused_open-in-Err-clause-answers
returns-in_ok-refused_open-in-Err-clause-answers g c =
    let refused = c.in_ok-refused_open-in-Err in
    rw (c.in-Opens.is, refused.ensures.shown)
    (not_opens c.args.pass.now c.args.events.now.items c.requires.all c.open.new.pass c.open.new.into.items c.args.thread
    c.in-Opens.line c.in-Opens.image c.in-Err.refusal
    (open_refused c.args.pass.now c.in-Opens.image c.open.new.pass c.args.events.now.items c.open.new.into.items
    c.in-Err.refusal refused.ensures.answers c.in-Err.ensures.refused))

pub returns-in-Ok-close-clause-answers : goal.returns-in-Ok-close-clause-answers
returns-in-Ok-close-clause-answers g c =
    rw (c.in-Closes.is, c.close-in-Ok-close.ensures)
    (closes c.args.pass.now c.args.events.now.items c.requires.all c.close.new.pass c.close.new.into.items c.args.thread
    c.in-Closes.line c.in-Closes.image c.in-Ok-close.closed c.in-Ok-close.ensures.closed)

pub returns-in_ok-refused_close-in-Err-close-clause-answers : goal.returns-in_ok-refused_close-in-Err-close-clause-answers
returns-in_ok-refused_close-in-Err-close-clause-answers g c =
    let refused = c.in_ok-refused_close-in-Err-close in
    rw (c.in-Closes.is, refused.ensures.shown)
    (not_closes c.args.pass.now c.args.events.now.items c.requires.all c.close.new.pass c.close.new.into.items c.args.thread
    c.in-Closes.line c.in-Closes.image c.in-Err-close.refusal
    (close_refused c.args.pass.now c.in-Closes.image c.close.new.pass c.args.events.now.items c.close.new.into.items
    c.in-Err-close.refusal refused.ensures.answers c.in-Err-close.ensures.refused))
