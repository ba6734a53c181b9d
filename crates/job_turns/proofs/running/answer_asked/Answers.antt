use Rattle.std.proofs.Common.{◌≡◌, Bool, false, true, not, Option, None, Some, refl, sym, ap, ◌∙◌}
use Rattle.std.specs.Prelude.{is_none, is_some}
use Rattle.loaded_modules.specs.declared.instance.Instance.{Instance}
use Rattle.job_turns.proofs.Resuming.{asked_answered, asked_refused, asker_gone, id_live, none_has_now}
use Rattle.job_turns.proofs.running.answer_asked.Goals as goal

none-is : (found wanted : Option Instance) (b : Bool) → found ≡ wanted → (none : Bool) → is_some found ≡ not none
    → none ≡ b → is_none wanted ≡ b
none-is found wanted b e none is f = ap is_none (sym e) ∙ by-none found none is ∙ f
  where
    by-none : (found : Option Instance) (none : Bool) → is_some found ≡ not none → is_none found ≡ none
    by-none None true is = refl
    by-none None false is = cc
    by-none (Some x) true is = cc
    by-none (Some x) false is = refl

pub returns-then-is_none-clause-ok : goal.returns-then-is_none-clause-ok
returns-then-is_none-clause-ok c =
    asker_gone c.args.machine.now c.args.space.now c.args.asked
    (none-is c.numbered.result _ true c.numbered.ensures c.is_none.result c.is_none.ensures c.if-is_none.true)

pub returns-in_default-clause-ok : goal.returns-in_default-clause-ok
returns-in_default-clause-ok c =
    rw c.place.ensures (none_has_now c.args.machine.now c.args.space.now c.args.asked
    (none-is c.numbered.result _ false c.numbered.ensures c.is_none.result c.is_none.ensures c.if-is_none.false)
    (sym c.with_id.ensures ∙ c.in_default.is))

pub reach-requires : goal.reach-requires
reach-requires c = id_live c.args.space.now c.args.asked.id c.in-Some.instance c.history_is_lawful.ensures
    (sym c.with_id.ensures ∙ c.in-Some.is)

pub returns-then-answer-clause-ok : goal.returns-then-answer-clause-ok
returns-then-answer-clause-ok c =
    asked_answered c.args.machine.now c.args.space.now c.args.asked
    (none-is c.numbered.result _ false c.numbered.ensures c.is_none.result c.is_none.ensures c.if-is_none.false) c.in-Some.instance (sym c.with_id.ensures ∙ c.in-Some.is)
    c.history_is_lawful.ensures c.reach.new.self c.in_ok-reach.ensures.ok c.answer.new.machine c.answer.new.space c.answer.ensures.shape c.if-answer.ensures.answers

pub returns-else-answer-clause-ok : goal.returns-else-answer-clause-ok
returns-else-answer-clause-ok c =
    rw c.place.ensures (asked_refused c.args.machine.now c.args.space.now c.args.asked
    (none-is c.numbered.result _ false c.numbered.ensures c.is_none.result c.is_none.ensures c.if-is_none.false) c.in-Some.instance (sym c.with_id.ensures ∙ c.in-Some.is)
    c.history_is_lawful.ensures c.reach.new.self c.in_ok-reach.ensures.ok c.answer.new.machine c.answer.new.space c.answer.ensures.shape c.if-answer.ensures.answers)
