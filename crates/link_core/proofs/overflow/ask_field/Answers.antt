use Rattle.std.proofs.Common.{◌∙◌, ap, arith, subst, sym, unwrap_or, ◌+◌}
use Rattle.tls_layout.specs.Places.{address_of}
use Rattle.link_needs.specs.Given.{FitsTable, IsGiven}
use Rattle.link_needs.specs.Linking.{layout}
use Rattle.link_core.proofs.WritingFields.{field_fills, field_overflows, names_symbol, nothing_fills}
use Rattle.link_core.proofs.WritingFields.{replaced_as, replaced_fills}
use Rattle.link_core.proofs.WritingRoom.{field_room}
use Rattle.link_core.proofs.overflow.ask_field.Goals as goal

pub returns-in-Nothing-clause-fits : goal.returns-in-Nothing-clause-fits
returns-in-Nothing-clause-fits c =
    let u = c.args.found.now in
    nothing_fills c.args.plan.now u.place.object u.section u.relocation c.in-Nothing.is

pub symbol_value-symbol-requires-clause-symbol : goal.symbol_value-symbol-requires-clause-symbol
symbol_value-symbol-requires-clause-symbol c =
    let u = c.args.found.now in
    let given = subst IsGiven c.plan.view_is c.plan.invariant.given in
    names_symbol c.args.plan.now u.place.object u.section u.relocation given c.requires.object c.requires.own
    c.in_default.not-Nothing

pub returns-then-is_replaced-clause-fits : goal.returns-then-is_replaced-clause-fits
returns-then-is_replaced-clause-fits c =
    let l = c.args.plan.now in
    let u = c.args.found.now in
    replaced_fills l u.place.object u.section u.relocation
    (replaced_as l u.place.object u.section u.relocation c.symbol_value-symbol.result c.symbol_value-symbol.ensures
    ∙ sym c.is_replaced.ensures ∙ c.if-is_replaced.true)

pub overflow_add-place : goal.overflow_add-place
overflow_add-place c =
    let l = c.args.plan.now in
    let u = c.args.found.now in
    let given = subst IsGiven c.plan.view_is c.plan.invariant.given in
    let limits = subst FitsTable c.plan.view_is c.plan.invariant.limits in
    let room = field_room l u.place.object u.section u.relocation given limits c.requires.object c.requires.own in
    let address = c.section_address.ensures.address
    ∙ ap (λ l. unwrap_or (address_of (layout l) u.place.object u.section) 0) c.plan.view_is in
    omega (arith, room.near, address)

pub field-requires-clause-number : goal.field-requires-clause-number
field-requires-clause-number c =
    let u = c.args.found.now in
    let given = subst IsGiven c.plan.view_is c.plan.invariant.given in
    names_symbol c.args.plan.now u.place.object u.section u.relocation given c.requires.object c.requires.own
    c.in_default.not-Nothing

pub returns-in-Ok-clause-fits : goal.returns-in-Ok-clause-fits
returns-in-Ok-clause-fits c =
    let u = c.args.found.now in
    let address = c.section_address.ensures.address
    ∙ ap (λ l. unwrap_or (address_of (layout l) u.place.object u.section) 0) c.plan.view_is in
    field_fills c.args.plan.now u.place.object u.section u.relocation c.in-Ok.field-0
    (c.in-Ok.ensures.field u.section (ap (λ a. a + u.relocation.offset) address))

pub returns-in-Err-clause-overflow : goal.returns-in-Err-clause-overflow
returns-in-Err-clause-overflow c =
    let l = c.args.plan.now in
    let u = c.args.found.now in
    let address = c.section_address.ensures.address
    ∙ ap (λ l. unwrap_or (address_of (layout l) u.place.object u.section) 0) c.plan.view_is in
    field_overflows l u.place.object u.section u.relocation
    (replaced_as l u.place.object u.section u.relocation c.symbol_value-symbol.result c.symbol_value-symbol.ensures
    ∙ sym c.is_replaced.ensures ∙ c.if-is_replaced.false)
    (c.in-Err.ensures.field u.section (ap (λ a. a + u.relocation.offset) address))
