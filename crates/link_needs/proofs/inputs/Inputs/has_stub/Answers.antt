use Rattle.std.proofs.Common.{◌∙◌, sym, ap}
use Rattle.std.specs.List.{list_any}
use Rattle.link_needs.specs.Needs.{has_stub, is_stub_call}
use Rattle.link_needs.proofs.ChoiceLemmas.{choices_there, own_choices}
use Rattle.link_needs.proofs.NeedsLemmas.{stub_here, stub_later, stub_none}
use Rattle.link_needs.proofs.PlanLemmas.{none_left, own_are, own_left, sites_there}
use Rattle.link_needs.proofs.inputs.Inputs.has_stub.Goals as goal
use Rattle.link_needs.specs.Linking.{choice}
use Rattle.std.specs.Prelude.{map}

pub bounds-choices-object : goal.bounds-choices-object
bounds-choices-object c =
    let l = c.args.self.now in
    let there = sites_there l c.self.inside.sites.now (ap (λ l. l.sites) c.self.view_is) c.loop-object.object
    c.loop-object-test.true in
    choices_there l c.args.choices.now c.loop-object.object c.requires there

pub calls_stub_in-requires : goal.calls_stub_in-requires
calls_stub_in-requires c =
    let l = c.args.self.now in
    let i = c.loop-object.object in
    let same = ap (λ l. l.sites) c.self.view_is in
    let there = sites_there l c.self.inside.sites.now same i c.loop-object-test.true in
    let are = own_are l c.self.inside.sites.now same i c.own-item.result c.own-item.is c.loop-object-test.true in
    c.as_slice-choices.ensures.value
    ∙ own_choices l c.args.choices.now i c.requires there c.index-choices-object.result c.index-choices-object.is
    ∙ ap (map (choice l i)) (are ∙ sym c.as_slice.ensures.value)

pub returns-then-calls_stub_in : goal.returns-then-calls_stub_in
unfolding has_stub
returns-then-calls_stub_in c =
    let l = c.args.self.now in
    let i = c.loop-object.object in
    let own = c.own-item.result in
    let left = own_left l c.self.inside.sites.now (ap (λ l. l.sites) c.self.view_is) i own c.own-item.is
    c.loop-object-test.true in
    sym (stub_here l l.sites i own.items left (ap (list_any (is_stub_call l i)) (sym c.as_slice.ensures.value)
    ∙ sym c.calls_stub_in.ensures ∙ c.if-calls_stub_in.true))
    ∙ c.loop-object.invariant

pub loop-object-preserved : goal.loop-object-preserved
loop-object-preserved c =
    let l = c.args.self.now in
    let i = c.loop-object.object in
    let own = c.own-item.result in
    let left = own_left l c.self.inside.sites.now (ap (λ l. l.sites) c.self.view_is) i own c.own-item.is
    c.loop-object-test.true in
    stub_later l l.sites i own.items left (ap (list_any (is_stub_call l i)) (sym c.as_slice.ensures.value)
    ∙ sym c.calls_stub_in.ensures ∙ c.if-calls_stub_in.false)
    ∙ c.loop-object.invariant

pub returns : goal.returns
unfolding has_stub
returns c =
    let l = c.args.self.now in
    let none = none_left l c.self.inside.sites.now (ap (λ l. l.sites) c.self.view_is) c.loop-object.object
    c.loop-object-test.false in
    sym (stub_none l l.sites c.loop-object.object none) ∙ c.loop-object.invariant
