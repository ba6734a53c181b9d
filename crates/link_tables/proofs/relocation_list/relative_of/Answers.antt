use Rattle.std.proofs.Common.{◌≡◌, ◌∙◌, ap, subst, unwrap_or, arith, rules}
use Rattle.tls_layout.specs.Places.{address_of}
use Rattle.link_needs.specs.Linking.{binding, layout}
use Rattle.link_needs.specs.Given.{IsGiven}
use Rattle.link_needs.specs.Plans.{number_by}
use Rattle.link_needs.specs.Values.{own_number}
use Rattle.link_tables.proofs.ListedFields.{near_of}
use Rattle.link_needs.proofs.ValueLemmas.{takes_number}
use Rattle.link_tables.proofs.relocation_list.relative_of.Goals as goal

pub symbol_value-symbol-requires-clause-object : goal.symbol_value-symbol-requires-clause-object
symbol_value-symbol-requires-clause-object c =
    let given : IsGiven c.args.plan.now = subst IsGiven c.plan.view_is c.plan.invariant.given in
    (near_of c.args.plan.now given c.args.field.now c.requires).there

pub symbol_value-symbol-requires-clause-symbol : goal.symbol_value-symbol-requires-clause-symbol
symbol_value-symbol-requires-clause-symbol c =
    let given : IsGiven c.args.plan.now = subst IsGiven c.plan.view_is c.plan.invariant.given in
    (near_of c.args.plan.now given c.args.field.now c.requires).symbol

pub overflow_add-result : goal.overflow_add-result
overflow_add-result c =
    let given : IsGiven c.args.plan.now = subst IsGiven c.plan.view_is c.plan.invariant.given in
    let near = near_of c.args.plan.now given c.args.field.now c.requires in
    omega (arith, near.near, c.section_address-address.ensures.small)

pub returns : goal.returns
returns c =
    let l = c.args.plan.now in
    let x = c.args.field.now in
    let o = x.object in
    let r = x.relocation in
    let number : c.own_number-place.result ≡ own_number l r.kind (binding l o r) =
    c.own_number-place.ensures ∙ ap (number_by l r.kind) c.symbol_value-symbol.ensures ∙ takes_number l o r in
    let address : c.section_address-address.result ≡ unwrap_or (address_of (layout l) o x.section) 0 =
    c.section_address-address.ensures.address
    ∙ ap (λ l. unwrap_or (address_of (layout l) o x.section) 0) c.plan.view_is in
    rw (← number, ← address) (search rules)
