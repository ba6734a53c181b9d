use Rattle.std.proofs.Common.{subst, sym}
use Rattle.meant_images.specs.CodeCells.{HaveRoom}
use Rattle.meant_images.specs.Marked.{AreMarks}
use Rattle.meant_images.proofs.Celled.{have_room}
use Rattle.meant_images.proofs.Marking.{are_marks}
use Rattle.meant_images.proofs.code_marks.CodeMarks.of.Goals as goal

pub invariant_of-painter : goal.invariant_of-painter
invariant_of-painter c =
    let room : HaveRoom c.args.inputs.now c.in_ok-entries.field-0.objects.items =
    have_room c.args.images.now c.args.inputs.now _ _ c.in_ok-entries.ensures.keeps c.in_ok-entries.ensures.few in
    record { have_room = rw c.deref.ensures.value room }

pub invariant_of-result : goal.invariant_of-result
invariant_of-result c =
    let table = rw c.deref.ensures.value at c.in_ok-cells.ensures in
    subst (λ n. AreMarks c.args.images.now c.args.inputs.now n c.in_ok-cells.cells.items c.in_ok-entries.field-0.entries.items)
    (sym c.code_start.ensures.start)
    (are_marks c.args.images.now c.args.inputs.now c.in_ok-entries.field-0.entries.items c.in_ok-entries.field-0.objects.items
    c.code_start.ensures.given c.code_start.ensures.lawful c.in_ok-entries.ensures.entries c.in_ok-entries.ensures.keeps
    c.in_ok-cells.cells.items table)
