use Rattle.std.proofs.Common.{◌+◌, ◌∙◌, [], ◌∷◌, Some, sym, ap, arith}
use Rattle.std.specs.Prelude.{unwrap_or}
use Rattle.elf_object.specs.declared.relocation.Relocation.{Relocation}
use Rattle.elf_object.specs.Lent.{section_size}
use Rattle.elf_object.specs.Relocations.{field_width}
use Rattle.tls_layout.specs.Places.{address_of}
use Rattle.tls_relocs.specs.FieldLaws.{field_patch}
use Rattle.tls_relocs.specs.Patches.{patched}
use Rattle.link_needs.specs.Linking.{choice, layout, object, place}
use Rattle.link_needs.specs.Values.{field}
use Rattle.link_core.proofs.WritingRoom.{new_room, site_usable}
use Rattle.link_core.proofs.WritingSites.{new_skips, new_writes}
use Rattle.link_core.proofs.sections.write_new_field.Goals as goal

pub new_relocation-relocation-requires : goal.new_relocation-relocation-requires
new_relocation-relocation-requires c =
    let l = c.args.plan.now in
    let o = c.args.own.object in
    let site = c.args.site.now in
    let usable = site_usable l o site c.is_given.ensures.given c.requires.object c.requires.own in
    (new_room l o site (choice l o site) c.args.field.now c.is_given.ensures.limits usable c.requires.field).small

pub overflow_add-place : goal.overflow_add-place
overflow_add-place c =
    let l = c.args.plan.now in
    let o = c.args.own.object in
    let site = c.args.site.now in
    let usable = site_usable l o site c.is_given.ensures.given c.requires.object c.requires.own in
    let fits = new_room l o site (choice l o site) c.args.field.now c.is_given.ensures.limits usable c.requires.field in
    let same = ap (λ (r : Relocation). r.offset) c.new_relocation-relocation.ensures in
    let at = ap (λ t. place l o t (site.start + c.args.field.now.at)) c.requires.section in
    omega (arith, fits.room.near, same, at, c.requires.address)

pub symbol_value-symbol-requires-clause-symbol : goal.symbol_value-symbol-requires-clause-symbol
symbol_value-symbol-requires-clause-symbol c =
    let same = ap (λ (r : Relocation). r.symbol) c.new_relocation-relocation.ensures in
    rw same (site_usable c.args.plan.now c.args.own.object c.args.site.now c.is_given.ensures.given c.requires.object
    c.requires.own).symbol

pub field-requires-clause-number : goal.field-requires-clause-number
field-requires-clause-number c =
    let same = ap (λ (r : Relocation). r.symbol) c.new_relocation-relocation.ensures in
    rw same (site_usable c.args.plan.now c.args.own.object c.args.site.now c.is_given.ensures.given c.requires.object
    c.requires.own).symbol

pub apply-requires : goal.apply-requires
apply-requires c =
    let l = c.args.plan.now in
    let o = c.args.own.object in
    let site = c.args.site.now in
    let usable = site_usable l o site c.is_given.ensures.given c.requires.object c.requires.own in
    let fits = new_room l o site (choice l o site) c.args.field.now c.is_given.ensures.limits usable c.requires.field in
    let same = ap (λ (r : Relocation). r.offset) c.new_relocation-relocation.ensures in
    let kind = ap (λ (r : Relocation). field_width r.kind) c.new_relocation-relocation.ensures in
    let size = ap (section_size (object l o)) c.requires.section in
    omega (arith, fits.room.inside, same, kind, size, c.in-Ok.ensures.width, c.requires.whole)

pub returns-in-Ok : goal.returns-in-Ok
returns-in-Ok c =
    let l = c.args.plan.now in
    let o = c.args.own.object in
    let site = c.args.site.now in
    let f = c.args.field.now in
    let same = c.new_relocation-relocation.ensures in
    let at = ap (λ (r : Relocation). r.offset) same in
    let begins = ap (λ a. a + c.new_relocation-relocation.result.offset)
    (c.requires.address ∙ ap (λ t. unwrap_or (address_of (layout l) o t) 0) (sym c.requires.section)) in
    let value = c.in-Ok.ensures.field site.section begins ∙ ap (field l o site.section) same in
    record {
      written =
          c.apply.ensures
          ∙ ap (λ n. patched (field_patch n c.in-Ok.value ∷ []) c.args.bytes.now) at
          ∙ new_writes l o site c.args.bytes.now f (Some c.in-Ok.value) value;
      filled = c.apply.auto.bytes;
    }

pub returns-in_default-clause-written : goal.returns-in_default-clause-written
returns-in_default-clause-written c =
    let l = c.args.plan.now in
    let o = c.args.own.object in
    let site = c.args.site.now in
    let begins = ap (λ a. a + c.new_relocation-relocation.result.offset)
    (c.requires.address ∙ ap (λ t. unwrap_or (address_of (layout l) o t) 0) (sym c.requires.section)) in
    let value = c.in_default.ensures.field site.section begins
    ∙ ap (field l o site.section) c.new_relocation-relocation.ensures in
    new_skips l o site c.args.bytes.now c.args.field.now value
