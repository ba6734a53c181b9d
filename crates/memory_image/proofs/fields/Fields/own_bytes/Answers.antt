use Rattle.std.proofs.Common.{◌≤◌, ◌∙◌, ap, length, subst, sym}
use Rattle.link_needs.specs.Linking.{object}
use Rattle.elf_object.specs.Lent.{section_bytes}
use Rattle.memory_image.specs.Filling.{raw_bytes}
use Rattle.memory_image.proofs.Filled.{own_is}
use Rattle.memory_image.proofs.fields.Fields.own_bytes.Goals as goal

pub returns : goal.returns
returns c =
    let table = c.args.self.now.table in
    let b = object c.args.self.now.inputs.now c.args.object in
    let part = c.args.part.now in
    let short : length (section_bytes b c.args.section) ≤ part.size =
    subst (λ xs. length xs ≤ part.size) c.requires.part.bytes_are c.requires.filled in
    own_is table b c.args.section part.size _ c.in_ok-own.own.items c.resize.new.self.items c.requires.part.size_is short
    (c.in_ok-own.ensures.items ∙ c.raw_bytes.ensures ∙ ap (raw_bytes table) c.requires.part.bytes_are)
    (c.in_ok-own.ensures.len ∙ sym (ap length c.in_ok-own.ensures.items)) c.in_ok-resize.ensures.items
