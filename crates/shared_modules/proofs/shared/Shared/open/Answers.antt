-- The event is the last that the pass has; or the refusal is the history's.
use Rattle.std.proofs.Common.{ap, sym, ◌∙◌, ℕ, drop, ◌++◌, Err, ◌≡◌}
use Rattle.module_table.specs.History.{History, open_answer}
use Rattle.shared_modules.proofs.Calls.{accepted_pass, refused_pass, open_answer_at, open_refused}
use Rattle.shared_modules.proofs.shared.Shared.open.Goals as goal

pub returns-in-Ok-answer-clause-opened : goal.returns-in-Ok-answer-clause-opened
returns-in-Ok-answer-clause-opened g c = let e = c.in-Ok.ensures.entered in
    accepted_pass _ _ _ c.pass.inside.seat.me.0 c.in-Ok.registry c.open-answer.new.self _
    (λ (h : History). open_answer h c.args.image) c.open-answer.result _ _ _ _
    c.pass.view_is (c.end_with.ensures.table
    ∙ c.enter.ensures.table) e c.open-answer.ensures.adds c.open-answer.ensures.legal c.end_with.ensures.left
    (open_answer_at c.in-Ok.registry _ c.args.image e.images) c.open-answer.ensures.opened
    (c.in-Ok.ensures.lacked
    ∙ ap (λ (n : ℕ). c.args.into.now.items ++ drop n c.in-Ok.registry.events) c.pass.invariant.seen_is)

pub returns-in-Err-clause-refused : goal.returns-in-Err-clause-refused
returns-in-Err-clause-refused g c = let e = c.in-Ok.ensures.entered in
    open_refused _ _ _ _ _ c.in-Ok.registry c.open-answer.result c.open-answer.ensures.refused e.spare
    (λ refusal answer. refused_pass _ _ _ c.pass.inside.seat.me.0 c.in-Ok.registry
    (λ (h : History). open_answer h c.args.image ≡ Err refusal) _ _ _ _
    c.pass.view_is (c.end.ensures.table ∙ c.enter.ensures.table) e c.end.ensures.left
    (sym (open_answer_at c.in-Ok.registry _ c.args.image e.images) ∙ answer)
    (c.in-Ok.ensures.lacked
    ∙ ap (λ (n : ℕ). c.args.into.now.items ++ drop n c.in-Ok.registry.events) c.pass.invariant.seen_is))
