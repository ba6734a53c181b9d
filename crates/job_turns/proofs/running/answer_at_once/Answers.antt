use Rattle.std.proofs.Common.{sym, ◌∙◌}
use Rattle.job_turns.proofs.AtOnce.{has_to_wait, is_answered, is_refused, none_asks, none_has}
use Rattle.job_turns.proofs.running.answer_at_once.Goals as goal

pub returns-in_default : goal.returns-in_default
returns-in_default c = rw c.place.ensures
    (none_asks c.args.machine.now c.args.space.now (sym c.asked_at.ensures ∙ c.in_default.is))

pub returns-then-not-is_startup : goal.returns-then-not-is_startup
returns-then-not-is_startup c =
    has_to_wait c.args.machine.now c.args.space.now c.in-Some.asked (sym c.asked_at.ensures ∙ c.in-Some.is)
    (sym c.is_startup.ensures ∙ c.if-not-is_startup.true)

pub returns-in_default-with_id : goal.returns-in_default-with_id
returns-in_default-with_id c =
    rw c.place.ensures (none_has c.args.machine.now c.args.space.now c.in-Some.asked
    (sym c.asked_at.ensures ∙ c.in-Some.is)
    (sym c.is_startup.ensures ∙ c.if-not-is_startup.false) (sym c.with_id.ensures ∙ c.in_default-with_id.is))

pub returns-then-answer : goal.returns-then-answer
returns-then-answer c =
    is_answered c.args.machine.now c.args.space.now c.in-Some.asked (sym c.asked_at.ensures ∙ c.in-Some.is)
    (sym c.is_startup.ensures ∙ c.if-not-is_startup.false) c.in-Some-with_id.instance
    (sym c.with_id.ensures ∙ c.in-Some-with_id.is)
    c.answer.new.machine c.answer.new.space c.answer.ensures.shape c.if-answer.ensures.answers

pub returns-else-answer : goal.returns-else-answer
returns-else-answer c =
    rw c.place.ensures (is_refused c.args.machine.now c.args.space.now c.in-Some.asked
    (sym c.asked_at.ensures ∙ c.in-Some.is)
    (sym c.is_startup.ensures ∙ c.if-not-is_startup.false) c.in-Some-with_id.instance
    (sym c.with_id.ensures ∙ c.in-Some-with_id.is)
    c.answer.new.machine c.answer.new.space c.answer.ensures.shape c.if-answer.ensures.answers)
