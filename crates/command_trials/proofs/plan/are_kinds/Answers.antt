use Rattle.std.proofs.Common.{◌∙◌, ℕ, List, String, Global, IsTrue, string_bytes, subst, sym}
use Rattle.std.proofs.lemmas.List.{take_all}
use Rattle.std.proofs.lemmas.List.Elements.{All-more}
use Rattle.command_trials.specs.Words.{AreKinds, is_kind}
use Rattle.command_trials.proofs.plan.are_kinds.Goals as goal

abbrev IsKindWord : String Global → Type 0
IsKindWord word = IsTrue (is_kind (string_bytes word))

pub loop-name-preserved : goal.loop-name-preserved
loop-name-preserved c =
    let kind : IsKindWord c.name-item.result =
    subst (λ (bytes : List ℕ). IsTrue (is_kind bytes)) c.as_str.ensures.value
    (sym c.kind_of.ensures ∙ c.if-is_none.ensures) in
    All-more IsKindWord c.args.names.now c.loop-name.name-index c.name-item.result c.loop-name-test.true c.loop-name.invariant
    (subst IsKindWord c.name-item.is kind)

pub returns-clause-kinds : goal.returns-clause-kinds
returns-clause-kinds c = λ _.
    subst (λ (words : List (String Global)). AreKinds words)
    (take_all c.loop-name.name-index c.args.names.now c.loop-name-test.false) c.loop-name.invariant
