use Rattle.std.proofs.Common.{◌∙◌, sym, rules}
use Rattle.elf_object.proofs.Lists.{relocations_none, relocations_first}
use Rattle.elf_object.proofs.relocs.RelocsIterator.next.Goals as goal

pub returns-then-self-clause-steps : goal.returns-then-self-clause-steps
returns-then-self-clause-steps c =
    let r = c.self.inside in
    let none = sym c.self.view_is ∙ relocations_none r.bytes.now r.at r.next r.end c.if-self.true in
    (none, none)

pub returns-clause-steps : goal.returns-clause-steps
returns-clause-steps c =
    let r = c.self.inside in
    rw c.relocation_at-relocation.ensures
    (sym c.self.view_is ∙ relocations_first r.bytes.now r.at r.next r.end c.if-self.false)

pub returns-clause-goes : goal.returns-clause-goes
returns-clause-goes c =
    let r = c.self.inside in
    rw (sym c.self.view_is ∙ relocations_first r.bytes.now r.at r.next r.end c.if-self.false)
    (record { on = λ _. search rules; keeps = search rules; rests = λ _. search rules })
