use Rattle.std.proofs.Common.{◌≤◌, ◌∙◌, [], ◌∷◌, List, ap, arith, subst, sym}
use Rattle.std.specs.List.{All}
use Rattle.std.proofs.lemmas.List.Elements.{All-head, All-tail}
use Rattle.elf_object.specs.declared.relocation.Relocation.{Relocation}
use Rattle.elf_object.specs.Lawful.{IsLawful}
use Rattle.elf_records.specs.Relocations.{field_width}
use Rattle.link_needs.specs.Linking.{object}
use Rattle.tls_relocs.specs.declared.fields.Field.{Field}
use Rattle.tls_relocs.specs.FieldLaws.{field_patch, width_of}
use Rattle.tls_relocs.specs.Patches.{patched}
use Rattle.memory_image.specs.Filling.{with_fields}
use Rattle.memory_image.proofs.Filled.{width_filled}
use Rattle.memory_image.proofs.fields.Fields.fill.Goals as goal

pub apply-requires : goal.apply-requires
apply-requires c =
    let l = c.args.self.now.inputs.now in
    let b = object l c.args.object in
    let r = c.in-Some.relocation in
    let kept = c.loop-relocation.invariant in
    let all = subst (λ (x : List Relocation). All (IsLawful b c.args.section) x) c.in-Some.ensures.steps kept.3 in
    let here : IsLawful b c.args.section r = All-head (IsLawful b c.args.section) r c.next.new.self all in
    let wide : width_of c.field-field.result ≤ field_width r.kind =
    subst (λ (f : Field). width_of f ≤ field_width r.kind) (sym c.field-field.ensures)
    (width_filled c.args.self.now.table l c.args.object c.args.section r) in
    omega (arith, here.inside, kept.4)

pub loop-relocation-preserved : goal.loop-relocation-preserved
loop-relocation-preserved c =
    let table = c.args.self.now.table in
    let l = c.args.self.now.inputs.now in
    let o = c.args.object in
    let s = c.args.section in
    let r = c.in-Some.relocation in
    let rest = c.next.new.self in
    let kept = c.loop-relocation.invariant in
    let all = subst (λ (x : List Relocation). All (IsLawful (object l o) s) x) c.in-Some.ensures.steps kept.3 in (
      tt,
      tt,
      ap (λ bytes. with_fields table l o s bytes rest)
          (c.apply.ensures ∙ ap (λ f. patched
          (field_patch r.offset f ∷ []) c.loop-relocation.bytes) c.field-field.ensures)
          ∙ ap (with_fields table l o s c.loop-relocation.bytes) (sym c.in-Some.ensures.steps)
          ∙ kept.2,
      All-tail (IsLawful (object l o) s) r rest all,
      c.apply.auto.bytes ∙ kept.4,
    )
