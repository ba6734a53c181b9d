use Rattle.std.proofs.Common.{◌≡◌, ◌∙◌, ap, arith, length, sym}
use Rattle.elf_object.specs.Lent.{relocations, section_size}
use Rattle.link_needs.specs.Linking.{object}
use Rattle.memory_image.specs.Filling.{with_fields}
use Rattle.memory_image.proofs.Filled.{front_is, length_own, section_filled}
use Rattle.memory_image.proofs.fields.Fields.filled.Goals as goal

pub fill-requires-clause-len : goal.fill-requires-clause-len
fill-requires-clause-len c =
    let b = object c.args.self.now.inputs.now c.args.object in
    ap length (c.as_mut_slice.ensures.value ∙ c.in_ok-own.ensures) ∙ length_own c.args.self.now.table b c.args.section

pub fill-requires-clause-small : goal.fill-requires-clause-small
fill-requires-clause-small c =
    let b = object c.args.self.now.inputs.now c.args.object in
    let len : length c.as_mut_slice.result.now ≡ section_size b c.args.section =
    ap length (c.as_mut_slice.ensures.value ∙ c.in_ok-own.ensures)
    ∙ length_own c.args.self.now.table b c.args.section in
    omega (arith, c.requires.size, c.requires.part.size_is)

pub returns : goal.returns
returns c =
    let table = c.args.self.now.table in
    let l = c.args.self.now.inputs.now in
    let o = c.args.object in
    let s = c.args.section in
    front_is c.fill.new.bytes _ c.in_ok-own.own.len (sym (c.fill.auto.bytes ∙ c.as_mut_slice.ensures.len))
    ∙ c.fill.ensures
    ∙ ap (λ own. with_fields table l o s own (relocations (object l o) s))
    (c.as_mut_slice.ensures.value ∙ c.in_ok-own.ensures)
    ∙ section_filled table l o s c.requires.is_object
