-- A byte that has a mark keeps one; another gets one where it is no value.
use Rattle.std.proofs.Common.{◌≡◌, ◌∙◌, ◌-◌, ◌++◌, ◌∷◌, [], ℕ, List, length, replicate, suc, ap, sym, arith}
use Rattle.std.specs.Prelude.{slice_index_or, slice_set}
use Rattle.std.proofs.lemmas.List.{length-append, length-replicate, length-set}
use Rattle.job_meaning.specs.declared.values.Byte.{Byte}
use Rattle.job_meaning.specs.declared.values.Byte.TheVariants.{Value}
use Rattle.marked_bytes.specs.Cells.{bytes_from}
use Rattle.marked_bytes.specs.Kept.{AreSlots}
use Rattle.marked_bytes.proofs.Cells.{added, inside, mark_added, mark_set, padded, room_left, value_set}
use Rattle.marked_bytes.proofs.Cells.{zeros_change_none}
use Rattle.marked_bytes.proofs.marked_bytes.MarkedBytes.set_byte.Goals as goal

pub put_mark-requires-clause-within : goal.put_mark-requires-clause-within
put_mark-requires-clause-within c =
    let slot : c.slot_at-slot.result ≡ slice_index_or c.self.inside.slots.items c.args.index 0 =
    c.slot_at-slot.ensures ∙ ap (λ (xs : List ℕ). slice_index_or xs c.args.index 0) c.deref.ensures.value in
    let within = c.self.invariant.slots.within c.args.index (c.slot_at-slot.result - 1)
    (omega (arith, slot, c.if-slot-ne0.true)) in
    omega (arith, within)

pub returns-then-slot-ne0 : goal.returns-then-slot-ne0
returns-then-slot-ne0 c =
    let s = c.self.inside in
    let slot : c.slot_at-slot.result ≡ slice_index_or s.slots.items c.args.index 0 =
    c.slot_at-slot.ensures ∙ ap (λ (xs : List ℕ). slice_index_or xs c.args.index 0) c.deref.ensures.value in
    let low = inside s.values.items s.slots.items s.marks.items c.args.self.now c.self.view_is c.args.index c.requires in
    ap (λ (xs : List Byte). bytes_from s.values.items s.slots.items xs) c.put_mark.ensures.items
    ∙ mark_set s.values.items s.slots.items s.marks.items c.self.invariant.slots c.args.index
    (c.slot_at-slot.result - 1) c.args.byte low
    (omega (arith, slot, c.if-slot-ne0.true))
    ∙ ap (λ (xs : List Byte). slice_set xs c.args.index c.args.byte) c.self.view_is

pub put_value-requires : goal.put_value-requires
put_value-requires c =
    inside c.self.inside.values.items c.self.inside.slots.items c.self.inside.marks.items c.args.self.now c.self.view_is c.args.index c.requires

pub returns-in-Value : goal.returns-in-Value
returns-in-Value c =
    let s = c.self.inside in
    let slot : c.slot_at-slot.result ≡ slice_index_or s.slots.items c.args.index 0 =
    c.slot_at-slot.ensures ∙ ap (λ (xs : List ℕ). slice_index_or xs c.args.index 0) c.deref.ensures.value in
    let low = inside s.values.items s.slots.items s.marks.items c.args.self.now c.self.view_is c.args.index c.requires in
    ap (λ (xs : List ℕ). bytes_from xs s.slots.items s.marks.items) c.put_value.ensures
    ∙ value_set s.values.items s.slots.items s.marks.items c.args.index c.in-Value.value low
    (omega (arith, slot, c.if-slot-ne0.false))
    ∙ ap (λ (xs : List Byte). slice_set xs c.args.index (Value c.in-Value.value)) c.self.view_is
    ∙ ap (λ (b : Byte). slice_set c.args.self.now c.args.index b) (sym c.in-Value.is)

pub add_mark-number-requires : goal.add_mark-number-requires
add_mark-number-requires c =
    let s = c.self.inside in
    let slot : c.slot_at-slot.result ≡ slice_index_or s.slots.items c.args.index 0 =
    c.slot_at-slot.ensures ∙ ap (λ (xs : List ℕ). slice_index_or xs c.args.index 0) c.deref.ensures.value in
    let plain : slice_index_or s.slots.items c.args.index 0 ≡ 0 = omega (arith, slot, c.if-slot-ne0.false) in
    let low = inside s.values.items s.slots.items s.marks.items c.args.self.now c.self.view_is c.args.index c.requires in
    let more = length s.values.items - length s.slots.items in
    let wide : length (s.slots.items ++ replicate more 0) ≡ length s.values.items =
    (let both = length-append s.slots.items (replicate more 0) in let zeros = length-replicate {A = ℕ} more 0 in
    omega (arith, both, zeros, c.self.invariant.wide)) in
    let kept = padded s.slots.items (length s.marks.items) c.self.invariant.slots more in
    let has_room = room_left (s.slots.items ++ replicate more 0) c.args.index (omega (arith, wide, low))
    (zeros_change_none s.slots.items more c.args.index ∙ plain) in
    let each = kept.each in
    record {
      room = omega (arith, has_room, each, wide, c.self.invariant.marks_room);
      kept = c.self.invariant.marks_kept;
      few = omega (arith, has_room, each, wide, c.self.invariant.few);
    }

pub put_slot-requires : goal.put_slot-requires
put_slot-requires c =
    let s = c.self.inside in
    let low = inside s.values.items s.slots.items s.marks.items c.args.self.now c.self.view_is c.args.index c.requires in
    let count : length c.as_slice.result.now ≡ length s.values.items =
    ap (λ (xs : List ℕ). length xs) c.as_slice.ensures.value in
    let more = length c.as_slice.result.now - length s.slots.items in
    let long : length c.widen.new.slots.items ≡ length (s.slots.items ++ replicate more 0) =
    ap (λ (xs : List ℕ). length xs) c.widen.ensures.items in
    let both = length-append s.slots.items (replicate more 0) in
    let zeros = length-replicate {A = ℕ} more 0 in
    omega (arith, low, count, long, both, zeros)

pub invariant_of-self-2 : goal.invariant_of-self-2
invariant_of-self-2 c =
    let s = c.self.inside in
    let slot : c.slot_at-slot.result ≡ slice_index_or s.slots.items c.args.index 0 =
    c.slot_at-slot.ensures ∙ ap (λ (xs : List ℕ). slice_index_or xs c.args.index 0) c.deref.ensures.value in
    let plain : slice_index_or s.slots.items c.args.index 0 ≡ 0 = omega (arith, slot, c.if-slot-ne0.false) in
    let low = inside s.values.items s.slots.items s.marks.items c.args.self.now c.self.view_is c.args.index c.requires in
    let count : length c.as_slice.result.now ≡ length s.values.items =
    ap (λ (xs : List ℕ). length xs) c.as_slice.ensures.value in
    let more = length c.as_slice.result.now - length s.slots.items in
    let both = length-append s.slots.items (replicate more 0) in
    let zeros = length-replicate {A = ℕ} more 0 in
    let wide : length (s.slots.items ++ replicate more 0) ≡ length s.values.items =
    omega (arith, both, zeros, count, c.self.invariant.wide) in
    let kept = padded s.slots.items (length s.marks.items) c.self.invariant.slots more in
    let one : AreSlots (slice_set (s.slots.items ++ replicate more 0) c.args.index (suc (length s.marks.items)))
    (suc (length s.marks.items)) =
    added (s.slots.items ++ replicate more 0) (length s.marks.items) kept c.args.index (omega (arith, wide, low))
    (zeros_change_none s.slots.items more c.args.index ∙ plain) in
    let number : c.add_mark-number.result ≡ suc (length s.marks.items) =
    omega (arith, c.add_mark-number.ensures.number) in
    let slots_are : c.put_slot.new.slots.items
    ≡ slice_set (s.slots.items ++ replicate more 0) c.args.index (suc (length s.marks.items)) =
    c.put_slot.ensures.items
    ∙ ap (λ (xs : List ℕ). slice_set xs c.args.index c.add_mark-number.result) c.widen.ensures.items
    ∙ ap (λ (n : ℕ). slice_set (s.slots.items ++ replicate more 0) c.args.index n) number in
    let marks_len : length c.add_mark-number.new.marks.items ≡ suc (length s.marks.items) =
    ap (λ (xs : List Byte). length xs) c.add_mark-number.ensures.items ∙ length-append s.marks.items (c.args.byte ∷ [])
    ∙ omega arith in
    let slots_len : length c.put_slot.new.slots.items ≡ length s.values.items =
    ap (λ (xs : List ℕ). length xs) slots_are
    ∙ length-set (s.slots.items ++ replicate more 0) c.args.index (suc (length s.marks.items)) ∙ wide in
    let widened : length c.widen.new.slots.items ≡ length s.values.items =
    ap (λ (xs : List ℕ). length xs) c.widen.ensures.items ∙ wide in
    record {
      slots = rw (slots_are, marks_len) one;
      wide = omega (arith, slots_len);
      few = c.self.invariant.few;
      slots_kept = omega (arith, c.put_slot.ensures.len, c.widen.ensures.kept, widened, slots_len);
      marks_kept = c.add_mark-number.ensures.kept;
      slots_room = omega (arith, c.put_slot.ensures.capacity, c.widen.ensures.capacity, c.self.invariant.slots_room);
      marks_room = omega (arith, c.add_mark-number.ensures.capacity, c.self.invariant.marks_room);
    }

pub returns : goal.returns
returns c =
    let s = c.self.inside in
    let slot : c.slot_at-slot.result ≡ slice_index_or s.slots.items c.args.index 0 =
    c.slot_at-slot.ensures ∙ ap (λ (xs : List ℕ). slice_index_or xs c.args.index 0) c.deref.ensures.value in
    let plain : slice_index_or s.slots.items c.args.index 0 ≡ 0 = omega (arith, slot, c.if-slot-ne0.false) in
    let low = inside s.values.items s.slots.items s.marks.items c.args.self.now c.self.view_is c.args.index c.requires in
    let count : length c.as_slice.result.now ≡ length s.values.items =
    ap (λ (xs : List ℕ). length xs) c.as_slice.ensures.value in
    let more = length c.as_slice.result.now - length s.slots.items in
    let both = length-append s.slots.items (replicate more 0) in
    let zeros = length-replicate {A = ℕ} more 0 in
    let number : c.add_mark-number.result ≡ suc (length s.marks.items) =
    omega (arith, c.add_mark-number.ensures.number) in
    let slots_are : c.put_slot.new.slots.items
    ≡ slice_set (s.slots.items ++ replicate more 0) c.args.index (suc (length s.marks.items)) =
    c.put_slot.ensures.items
    ∙ ap (λ (xs : List ℕ). slice_set xs c.args.index c.add_mark-number.result) c.widen.ensures.items
    ∙ ap (λ (n : ℕ). slice_set (s.slots.items ++ replicate more 0) c.args.index n) number in
    ap (λ (xs : List ℕ). bytes_from s.values.items xs c.add_mark-number.new.marks.items) slots_are
    ∙ ap (λ (xs : List Byte). bytes_from s.values.items
    (slice_set (s.slots.items ++ replicate more 0) c.args.index
    (suc (length s.marks.items))) xs) c.add_mark-number.ensures.items
    ∙ mark_added s.values.items s.slots.items s.marks.items c.self.invariant.slots c.args.index more c.args.byte low
    (omega (arith, both, zeros, count, c.self.invariant.wide, low)) plain
    ∙ ap (λ (xs : List Byte). slice_set xs c.args.index c.args.byte) c.self.view_is
