use Rattle.std.proofs.Common.{◌∙◌, ◌+◌, refl, sym, ap, arith}
use Rattle.link_core.proofs.WritingFields.{field_writes, names_symbol, nothing_writes, replaced_as, replaced_writes}
use Rattle.link_core.proofs.WritingFields.{unfit_writes}
use Rattle.link_core.proofs.WritingRoom.{field_room}
use Rattle.link_core.proofs.sections.fill_field.Goals as goal

pub returns-in-Nothing-clause-written : goal.returns-in-Nothing-clause-written
returns-in-Nothing-clause-written c =
    nothing_writes c.args.plan.now c.args.own.object c.args.own.section c.args.relocation.now c.args.bytes.now
    c.in-Nothing.is

pub symbol_value-symbol-requires-clause-symbol : goal.symbol_value-symbol-requires-clause-symbol
symbol_value-symbol-requires-clause-symbol c =
    names_symbol c.args.plan.now c.args.own.object c.args.own.section c.args.relocation.now c.is_given.ensures.given
    c.requires.object c.requires.own c.in_default.not-Nothing

pub returns-then-is_replaced : goal.returns-then-is_replaced
returns-then-is_replaced c =
    let l = c.args.plan.now in
    let o = c.args.own.object in
    let r = c.args.relocation.now in
    let is = replaced_as l o c.args.own.section r c.symbol_value-symbol.result c.symbol_value-symbol.ensures
    ∙ sym c.is_replaced.ensures ∙ c.if-is_replaced.true in
    record { written = replaced_writes l o c.args.own.section r c.args.bytes.now is; filled = refl }

pub overflow_add-place : goal.overflow_add-place
overflow_add-place c =
    let room = field_room c.args.plan.now c.args.own.object c.args.own.section c.args.relocation.now
    c.is_given.ensures.given c.is_given.ensures.limits c.requires.object c.requires.own in
    omega (arith, room.near, c.requires.address)

pub field-requires-clause-number : goal.field-requires-clause-number
field-requires-clause-number c =
    names_symbol c.args.plan.now c.args.own.object c.args.own.section c.args.relocation.now c.is_given.ensures.given
    c.requires.object c.requires.own c.in_default.not-Nothing

pub apply-requires : goal.apply-requires
apply-requires c =
    let room = field_room c.args.plan.now c.args.own.object c.args.own.section c.args.relocation.now
    c.is_given.ensures.given c.is_given.ensures.limits c.requires.object c.requires.own in
    omega (arith, room.inside, c.in-Ok.ensures.width, c.requires.whole)

pub returns-in-Ok : goal.returns-in-Ok
returns-in-Ok c =
    let l = c.args.plan.now in
    let o = c.args.own.object in
    let t = c.args.own.section in
    let r = c.args.relocation.now in
    let is = replaced_as l o t r c.symbol_value-symbol.result c.symbol_value-symbol.ensures
    ∙ sym c.is_replaced.ensures ∙ c.if-is_replaced.false in
    let value = c.in-Ok.ensures.field t (ap (λ a. a + r.offset) c.requires.address) in
    record {
      written = c.apply.ensures ∙ field_writes l o t r c.args.bytes.now c.in-Ok.field is value;
      filled = c.apply.auto.bytes;
    }

pub returns-in_default-field : goal.returns-in_default-field
returns-in_default-field c =
    let l = c.args.plan.now in
    let o = c.args.own.object in
    let t = c.args.own.section in
    let r = c.args.relocation.now in
    let is = replaced_as l o t r c.symbol_value-symbol.result c.symbol_value-symbol.ensures
    ∙ sym c.is_replaced.ensures ∙ c.if-is_replaced.false in
    let value = c.in_default-field.ensures.field t (ap (λ a. a + r.offset) c.requires.address) in
    record { written = unfit_writes l o t r c.args.bytes.now is value; filled = refl }
