use Rattle.std.proofs.Common.{◌-◌, ◌∙◌, sym, ap, length}
use Rattle.elf_object.specs.Laws.{length-relocations_from}
use Rattle.elf_object.proofs.relocs.Relocs.len.Goals as goal

pub returns : goal.returns
returns c =
    let r = c.self.inside in
    c.saturating_sub.ensures ∙ sym (length-relocations_from r.bytes.now r.at r.next (r.end - r.next))
    ∙ ap length c.self.view_is
