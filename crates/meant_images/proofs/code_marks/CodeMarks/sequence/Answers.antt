use Rattle.std.proofs.Common.{◌∙◌, ap, sym}
use Rattle.link_needs.specs.Linking.{Linking}
use Rattle.meant_images.specs.declared.entries.Entry.{Entry}
use Rattle.meant_images.specs.Entries.{sequence_by}
use Rattle.meant_images.specs.Marked.{MarkedImage}
use Rattle.meant_images.proofs.Marking.{low_at, sequence_none, sequence_some, shown_at}
use Rattle.whole_meaning.specs.Code.{sequence_of}
use Rattle.whole_meaning.specs.Spots.{bias_of}
use Rattle.meant_images.proofs.code_marks.CodeMarks.sequence.Goals as goal

pub entry_at-entry-requires : goal.entry_at-entry-requires
entry_at-entry-requires c =
    let found = sym (rw c.as_slice.ensures.value at c.cell_at.ensures) ∙ c.in-Some.is in
    rw c.as_slice-in-Some.ensures.value (shown_at _ _ _ _ _ c.self.invariant _ _ c.in-Some.cell found).there

pub sequence-requires-clause-numbered : goal.sequence-requires-clause-numbered
sequence-requires-clause-numbered c =
    let found = sym (rw c.as_slice.ensures.value at c.cell_at.ensures) ∙ c.in-Some.is in
    let entry = rw c.as_slice-in-Some.ensures.value at c.entry_at-entry.ensures in
    rw entry (c.self.invariant.numbered _ _ (shown_at _ _ _ _ _ c.self.invariant _ _ c.in-Some.cell found).there)

pub sequence-requires-clause-low : goal.sequence-requires-clause-low
sequence-requires-clause-low c =
    let found = sym (rw c.as_slice.ensures.value at c.cell_at.ensures) ∙ c.in-Some.is in
    low_at _ _ _ _ _ c.self.invariant c.bias_of-bias.result c.args.place c.in-Some.cell c.bias_of-bias.ensures.small found

pub returns-in-Some : goal.returns-in-Some
returns-in-Some c =
    let bias = c.bias_of-bias.ensures.bias ∙ ap (λ (l : Linking). bias_of l.kind c.args.number) c.inputs.view_is in
    let found = sym (rw (c.as_slice.ensures.value, bias) at c.cell_at.ensures) ∙ c.in-Some.is in
    let entry = rw c.as_slice-in-Some.ensures.value at c.entry_at-entry.ensures in
    c.sequence.ensures ∙ ap
    (λ (e : Entry). sequence_by c.args.image c.args.number c.args.place e c.in-Some.cell.byte) entry
    ∙ sequence_some _ _ _ _ _ c.self.invariant c.args.image c.args.number c.args.place c.in-Some.cell found
    ∙ ap (λ (m : MarkedImage). sequence_of m.all c.args.image c.args.number m.own c.args.place) c.self.view_is

pub returns-in-None : goal.returns-in-None
returns-in-None c =
    let bias = c.bias_of-bias.ensures.bias ∙ ap (λ (l : Linking). bias_of l.kind c.args.number) c.inputs.view_is in
    let found = sym (rw (c.as_slice.ensures.value, bias) at c.cell_at.ensures) ∙ c.in-None.is in
    sequence_none _ _ _ _ _ c.self.invariant c.args.image c.args.number c.args.place found
    ∙ ap (λ (m : MarkedImage). sequence_of m.all c.args.image c.args.number m.own c.args.place) c.self.view_is
