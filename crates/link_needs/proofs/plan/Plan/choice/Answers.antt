use Rattle.std.proofs.Common.{◌≡◌, ◌∙◌, ap, length, map, arith, subst, sym}
use Rattle.std.specs.Vec.{vec_len}
use Rattle.relax_sites.specs.ChoiceLaws.{IsChoiceOf}
use Rattle.link_needs.specs.Linking.{Linking, choices_from}
use Rattle.link_needs.proofs.ChoiceLemmas.{choice_at, choice_own, choice_there, choices_there}
use Rattle.link_needs.proofs.plan.Plan.choice.Goals as goal

pub index-own-requires : goal.index-own-requires
index-own-requires c =
    let l = c.args.self.now in
    let choices = c.self.inside.choices in
    let are : map (λ own. own.items) choices.items ≡ choices_from l 0 l.sites =
    c.self.invariant.choices_are ∙ ap (λ (l : Linking). choices_from l 0 l.sites) c.self.view_is in
    let len : vec_len choices ≡ length choices.items = choices.ok.0 in
    omega (arith, choices_there l choices.items c.args.object are c.requires.object, len)

pub index-requires : goal.index-requires
index-requires c =
    let l = c.args.self.now in
    let choices = c.self.inside.choices.items in
    let own = c.index-own.result.now in
    let are : map (λ own. own.items) choices ≡ choices_from l 0 l.sites =
    c.self.invariant.choices_are ∙ ap (λ (l : Linking). choices_from l 0 l.sites) c.self.view_is in
    let there =
    choice_there l choices c.args.object are c.requires.object own c.index-own.ensures c.args.number
    c.requires.number in
    let len : vec_len own ≡ length own.items = own.ok.0 in
    omega (arith, there, len)

pub returns-clause-choice : goal.returns-clause-choice
returns-clause-choice c = λ site is.
    let l = c.args.self.now in
    let choices = c.self.inside.choices.items in
    let are : map (λ own. own.items) choices ≡ choices_from l 0 l.sites =
    c.self.invariant.choices_are ∙ ap (λ (l : Linking). choices_from l 0 l.sites) c.self.view_is in
    choice_at l choices c.args.object are c.requires.object c.index-own.result.now c.index-own.ensures c.args.number
    c.requires.number c.index.result.now site c.index.ensures is

pub returns-clause-own : goal.returns-clause-own
returns-clause-own c = λ site is.
    let l = c.args.self.now in
    let choices = c.self.inside.choices.items in
    let are : map (λ own. own.items) choices ≡ choices_from l 0 l.sites =
    c.self.invariant.choices_are ∙ ap (λ (l : Linking). choices_from l 0 l.sites) c.self.view_is in
    subst (IsChoiceOf site.form)
    (sym (choice_at l choices c.args.object are c.requires.object c.index-own.result.now c.index-own.ensures
    c.args.number c.requires.number c.index.result.now site c.index.ensures is))
    (choice_own l c.args.object site)
