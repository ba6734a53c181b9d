-- A byte is its value, or its mark.
use Rattle.std.proofs.Common.{◌≡◌, ◌∙◌, ◌-◌, ℕ, List, Some, ap, sym, arith}
use Rattle.std.specs.Prelude.{slice_index_or}
use Rattle.job_meaning.specs.declared.values.Byte.TheVariants.{Hidden, Value}
use Rattle.marked_bytes.proofs.Cells.{marked_byte, plain_byte}
use Rattle.marked_bytes.proofs.marked_bytes.MarkedBytes.byte_at.Goals as goal

pub returns-then-slot-eq0 : goal.returns-then-slot-eq0
returns-then-slot-eq0 c =
    let s = c.self.inside in
    let slot : c.slot_at-slot.result ≡ slice_index_or s.slots.items c.args.index 0 =
    c.slot_at-slot.ensures ∙ ap (λ (xs : List ℕ). slice_index_or xs c.args.index 0) c.deref.ensures.value in
    let value : c.value_at.result ≡ slice_index_or s.values.items c.args.index 0 =
    c.value_at.ensures ∙ ap (λ (xs : List ℕ). slice_index_or xs c.args.index 0) c.deref-then-slot-eq0.ensures.value in
    plain_byte s.values.items s.slots.items s.marks.items c.args.self.now c.self.view_is c.args.index c.requires
    (omega (arith, slot, c.if-slot-eq0.true))
    ∙ ap (λ (n : ℕ). Some (Value n)) (sym value)

pub returns : goal.returns
returns c =
    let s = c.self.inside in
    let slot : c.slot_at-slot.result ≡ slice_index_or s.slots.items c.args.index 0 =
    c.slot_at-slot.ensures ∙ ap (λ (xs : List ℕ). slice_index_or xs c.args.index 0) c.deref.ensures.value in
    let number = c.slot_at-slot.result - 1 in
    marked_byte s.values.items s.slots.items s.marks.items c.args.self.now c.self.view_is c.args.index number c.requires
    (omega (arith, slot, c.if-slot-eq0.false))
    ∙ ap Some (sym (c.mark_at.ensures ∙ ap (λ xs. slice_index_or xs number Hidden) c.deref-2.ensures.value))
