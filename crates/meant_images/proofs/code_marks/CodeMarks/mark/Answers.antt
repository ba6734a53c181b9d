use Rattle.std.proofs.Common.{◌∙◌, ap, sym}
use Rattle.meant_images.specs.declared.entries.Entry.{Entry}
use Rattle.meant_images.specs.Entries.{mark_by}
use Rattle.meant_images.specs.Marked.{MarkedImage}
use Rattle.meant_images.proofs.Marking.{mark_none, mark_some, shown_at}
use Rattle.whole_meaning.specs.Code.{mark_of}
use Rattle.meant_images.proofs.code_marks.CodeMarks.mark.Goals as goal

pub entry_at-requires : goal.entry_at-requires
entry_at-requires c =
    let found = sym (rw c.as_slice.ensures.value at c.cell_at.ensures) ∙ c.in-Some.is in
    rw c.as_slice-in-Some.ensures.value (shown_at _ _ _ _ _ c.self.invariant _ _ c.in-Some.cell found).there

pub returns-in-Some : goal.returns-in-Some
returns-in-Some c =
    let found = sym (rw c.as_slice.ensures.value at c.cell_at.ensures) ∙ c.in-Some.is in
    let entry = rw c.as_slice-in-Some.ensures.value at c.entry_at.ensures in
    c.mark.ensures ∙ ap (λ (e : Entry). mark_by c.args.bias e c.in-Some.cell.byte) entry
    ∙ mark_some _ _ _ _ _ c.self.invariant c.args.bias c.args.place c.in-Some.cell found
    ∙ ap (λ (m : MarkedImage). mark_of m.own c.args.bias c.args.place) c.self.view_is

pub returns-in-None : goal.returns-in-None
returns-in-None c =
    let found = sym (rw c.as_slice.ensures.value at c.cell_at.ensures) ∙ c.in-None.is in
    mark_none _ _ _ _ _ c.self.invariant c.args.bias c.args.place found
    ∙ ap (λ (m : MarkedImage). mark_of m.own c.args.bias c.args.place) c.self.view_is
