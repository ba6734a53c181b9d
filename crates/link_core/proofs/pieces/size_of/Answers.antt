use Rattle.std.proofs.Common.{◌∙◌, sym, ap, arith}
use Rattle.elf_object.specs.Lent.{section_size}
use Rattle.link_needs.specs.Linking.{object}
use Rattle.link_core.proofs.LengthsKept.{linked_whole}
use Rattle.link_core.proofs.WritingRoom.{section_small}
use Rattle.link_core.proofs.pieces.size_of.Goals as goal

pub returns-in-Some : goal.returns-in-Some
returns-in-Some c =
    let l = c.args.plan.now in
    let o = c.args.own.object in
    let t = c.args.own.section in
    let given = c.is_given.ensures.given in
    let b = c.object.ensures ∙ ap (λ l. object l o) c.plan.view_is in
    let size = c.in-Some.ensures.part.size_is ∙ ap (λ b. section_size b t) b in
    record {
      size = size ∙ sym (linked_whole l given o t c.requires.object);
      small = omega (arith, size, section_small l given c.args.own c.requires);
    }
