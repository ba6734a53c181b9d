-- Where a block lies, and what a write to it leaves.
use Rattle.std.proofs.Common.{◌≡◌, ◌≢◌, ℕ, ◌+◌, ◌-◌, ◌<◌, ◌≤◌, true, List, ◌++◌, length, Option, Some, None, sym, refl}
use Rattle.std.proofs.Common.{ap, ◌∙◌, subst, arith, inl, inr}
use Rattle.std.proofs.Math.ListN.{set}
use Rattle.std.specs.Prelude.{is_some, take, drop, slice_range}
use Rattle.std.proofs.lemmas.Option.{same_Some, none-some}
use Rattle.std.proofs.lemmas.Bool.{cases_Bool, cases_eq, true≢false}
use Rattle.std.proofs.lemmas.List.{take_all, drop-drop, append-nil, get_or-set_same, get_or-set_other, length-set}
use Rattle.std.proofs.lemmas.List.{length-append, length-take, length-drop, nil_from_length}
use Rattle.std.proofs.lemmas.Slice.{between_from_start}
use Rattle.module_table.specs.declared.modules.Module.{Module}
use Rattle.module_table.specs.Modules.{is_loaded}
use Rattle.module_table.specs.Past.{module_of}
use Rattle.module_table.specs.PastLaws.{image_of}
use Rattle.thread_vector.specs.declared.dtv.Place.{Place}
use Rattle.thread_vector.specs.Holding.{IsVector}
use Rattle.thread_vector.specs.Laws.{block_length, size_in}
use Rattle.thread_vector.specs.Places.{bytes_at, place_at, place_of, slots_with, with_block}
use Rattle.thread_vector.specs.Places.{Writes}
use Rattle.thread_vector.specs.Vectors.{Vector, Piece, no_piece, slot_of, is_number, bytes_for, block_at, block_in}
use Rattle.thread_vector.specs.Vectors.{rewritten, with_new, written, over, held}
use Rattle.thread_vector.proofs.Facts.{facts, image_has}
use Rattle.thread_vector.proofs.Blocks.{reads_others, reads_written, surplus_place}
use Rattle.thread_vector.proofs.Stepping.{are_slots, held_at, held_none, id_high, length-over, number_is}

pub place_none : (v : Vector) (i : ℕ) → image_of v.past i ≡ None
    → record { slot = 0; from = 0; size = 0 } ≡ place_of v i
unfolding place_of
place_none v i e = rw e refl

pub place_some : (v : Vector) (i a : ℕ) → image_of v.past i ≡ Some a
    → place_of v i ≡ place_at v.past.limit (module_of v.past a) (module_of v.past a).offset
unfolding place_of
place_some v i a e = rw e refl

pub record Placed (v : Vector) (i : ℕ) (p : Place) : Type 0 where
  pub low : p.slot < length v.slots
  pub high : p.from + p.size ≤ length (slot_of v.slots p.slot).bytes
  pub block : held v i ≡ Some (bytes_at v.slots p)

whole : (xs : List ℕ) (n : ℕ) → length xs ≡ n → slice_range xs 0 (0 + n) ≡ xs
whole xs n e = let z : 0 + n ≡ n = omega arith in rw z (between_from_start xs n ∙ take_all n xs (omega (arith, e)))

number_from : (i : ℕ) (piece : Piece) → is_some (bytes_for i piece) ≡ true → is_number i piece.instance ≡ true
number_from i piece e = elim (cases_Bool (is_number i piece.instance)) [
  | inl t ↦ t
  | inr f ↦ absurd (true≢false (sym e ∙ rw f refl))
]

pub placed : (v : Vector) (i : ℕ) → IsVector v → is_some (held v i) ≡ true → Placed v i (place_of v i)
placed v i is some = by_image (image_of v.past i) refl
  where
    by_offset : (a : ℕ) → image_of v.past i ≡ Some a → (o : Option ℕ) → (module_of v.past a).offset ≡ o
        → Placed v i (place_at v.past.limit (module_of v.past a) o)
    by_offset a at None e =
        let loaded = (image_has v.past i a at).1 in
        let high = id_high v a is loaded in
        let block : held v i ≡ bytes_for (module_of v.past a).instance (slot_of v.slots (module_of v.past a).id) =
        held_at v i a at ∙ rw e refl in
        let number = number_from (module_of v.past a).instance (slot_of v.slots (module_of v.past a).id)
        (subst (λ (o : Option (List ℕ)). is_some o ≡ true) block some) in
        let long = is.sizes a loaded number in
        record {
          low = omega (arith, is.long, high);
          high = omega (arith, long);
          block = block ∙ rw number
              (ap Some (sym (whole (slot_of v.slots (module_of v.past a).id).bytes
              (module_of v.past a).info.size long)));
        }
    by_offset a at (Some x) e =
        let place = surplus_place v.images v.past a x is.left e in
        record {
          low = omega (arith, is.long);
          high = omega (arith, place.0, place.2, is.surplus);
          block = held_at v i a at ∙ rw e refl;
        }

    by_image : (o : Option ℕ) → image_of v.past i ≡ o → Placed v i (place_of v i)
    by_image None at = absurd (true≢false (sym some ∙ ap is_some (held_none v i at)))
    by_image (Some a) at = subst (Placed v i) (sym (place_some v i a at))
        (by_offset a at (module_of v.past a).offset refl)

pub length-rewritten : (bytes : List ℕ) (from : ℕ) (w : List ℕ) → length (rewritten bytes from w) ≡ length bytes
length-rewritten bytes from w =
    omega (
      arith,
      length-take (length bytes) (with_new bytes from w ++ drop (length (with_new bytes from w)) bytes),
      length-append (with_new bytes from w) (drop (length (with_new bytes from w)) bytes),
      length-drop (length (with_new bytes from w)) bytes,
    )

pub vector_rewritten : (v : Vector) (k : ℕ) (piece : Piece) → IsVector v → k < length v.slots
    → piece.instance ≡ (slot_of v.slots k).instance → length piece.bytes ≡ length (slot_of v.slots k).bytes
    → IsVector (record v { slots = set v.slots k piece })
vector_rewritten v k piece is l same long =
    let instance : (j : ℕ) → (slot_of (set v.slots k piece) j).instance ≡ (slot_of v.slots j).instance =
    λ j. elim (cases_eq j k) [
      | inl e ↦ rw e (ap (λ (x : Piece). x.instance) (get_or-set_same v.slots k piece no_piece l) ∙ same)
      | inr ne ↦ ap (λ (x : Piece). x.instance) (get_or-set_other v.slots k j piece no_piece ne)
    ] in
    let size : (j : ℕ) → length (slot_of (set v.slots k piece) j).bytes ≡ length (slot_of v.slots j).bytes =
    λ j. elim (cases_eq j k) [
      | inl e ↦ rw e (ap (λ (x : Piece). length x.bytes) (get_or-set_same v.slots k piece no_piece l) ∙ long)
      | inr ne ↦ ap (λ (x : Piece). length x.bytes) (get_or-set_other v.slots k j piece no_piece ne)
    ] in
    record {
      low = is.low;
      high = is.high;
      left = is.left;
      long = length-set v.slots k piece ∙ is.long;
      surplus = size 0 ∙ is.surplus;
      made = λ j number at. is.made j number (sym (instance j) ∙ at);
      sizes = λ image loaded at. size (module_of v.past image).id
          ∙ is.sizes image loaded
          (sym (ap (is_number (module_of v.past image).instance) (instance (module_of v.past image).id)) ∙ at);
    }

-- ---- what is read after a write

-- as many bytes as there were
rewritten_is : (bytes : List ℕ) (from size : ℕ) (w : List ℕ) → from + size ≤ length bytes → length w ≡ size
    → rewritten bytes from w ≡ over from size bytes w
rewritten_is bytes from size w l e =
    let put : with_new bytes from w ≡ over from size bytes w = rw (e, drop-drop size from bytes) refl in
    let long : length (with_new bytes from w) ≡ length bytes = ap length put ∙ length-over from size bytes w l e in
    let cut : with_new bytes from w ++ drop (length (with_new bytes from w)) bytes ≡ with_new bytes from w =
    ap (λ (t : List ℕ). with_new bytes from w ++ t)
    (nil_from_length (drop (length (with_new bytes from w)) bytes)
    (omega (arith, long, length-drop (length (with_new bytes from w)) bytes)))
    ∙ append-nil (with_new bytes from w) in
    ap (λ (t : List ℕ). take (length bytes) t) cut
    ∙ take_all (length bytes) (with_new bytes from w) (omega (arith, long)) ∙ put

over_all : (bytes w : List ℕ) (size : ℕ) → length bytes ≡ size → over 0 size bytes w ≡ w
over_all bytes w size e = let z : 0 + size ≡ size = omega arith in
    rw z (ap (λ (t : List ℕ). w ++ t) (nil_from_length (drop size bytes) (omega (arith, e, length-drop size bytes)))
    ∙ append-nil w)

slots_written : (v : Vector) (a : ℕ) (w : List ℕ) (o : Option ℕ) → IsVector v → is_loaded (module_of v.past a) ≡ true
    → (module_of v.past a).offset ≡ o → is_some (block_at v.slots v.past.limit (module_of v.past a) o) ≡ true
    → length w ≡ (module_of v.past a).info.size
    → slots_with v.slots (place_at v.past.limit (module_of v.past a) o) w
    ≡ written v.slots v.past.limit (module_of v.past a) o w
slots_written v a w None is loaded e some long =
    let number = number_from (module_of v.past a).instance (slot_of v.slots (module_of v.past a).id) some in
    let size = is.sizes a loaded number in
    let instance = number_is (module_of v.past a).instance (slot_of v.slots (module_of v.past a).id).instance number in
    let bytes = rewritten_is (slot_of v.slots (module_of v.past a).id).bytes 0 (module_of v.past a).info.size w
    (omega (arith, size)) long
    ∙ over_all (slot_of v.slots (module_of v.past a).id).bytes w (module_of v.past a).info.size size in
    rw (instance, bytes) refl
slots_written v a w (Some x) is loaded e some long =
    let place = surplus_place v.images v.past a x is.left e in
    rw (rewritten_is (slot_of v.slots 0).bytes (v.past.limit - x) (module_of v.past a).info.size w
    (omega (arith, place.0, place.2, is.surplus)) long) refl

size_at_place : (limit : ℕ) (m : Module) (o : Option ℕ) → (place_at limit m o).size ≡ m.info.size
size_at_place limit m None = refl
size_at_place limit m (Some x) = refl

pub writes : (v : Vector) (i : ℕ) (w : List ℕ) → IsVector v → is_some (held v i) ≡ true → length w ≡ (place_of v i).size
    → Writes v i w (with_block v i w)
writes v i w is some long = by_image (image_of v.past i) refl
  where
    by_other : (a : ℕ) → image_of v.past i ≡ Some a
        → (with_block v i w).slots ≡ written v.slots v.past.limit (module_of v.past a) (module_of v.past a).offset w
        → length w ≡ (module_of v.past a).info.size
        → (j : ℕ) → j ≢ i → (o : Option ℕ) → image_of v.past j ≡ o → held (with_block v i w) j ≡ held v j
    by_other a at slots size j ne None e = held_none (with_block v i w) j e ∙ sym (held_none v j e)
    by_other a at slots size j ne (Some b) e =
        let one = image_has v.past i a at in
        let two = image_has v.past j b e in
        let apart : a ≢ b = λ same. ne (sym two.2 ∙ ap (λ (k : ℕ). (module_of v.past k).instance) (sym same) ∙ one.2) in
        held_at (with_block v i w) j b e ∙ ap (λ (s : List Piece). block_in s v.past b) slots
        ∙ reads_others v.images v.past v.slots a b w (facts v.images v.past is.left)
        (are_slots v is) apart one.1 two.1 size ∙ sym (held_at v j b e)

    by_image : (o : Option ℕ) → image_of v.past i ≡ o → Writes v i w (with_block v i w)
    by_image None at = absurd (true≢false (sym some ∙ ap is_some (held_none v i at)))
    by_image (Some a) at =
        let loaded = (image_has v.past i a at).1 in
        let f = facts v.images v.past is.left in
        let there : is_some (block_in v.slots v.past a) ≡ true =
        subst (λ (o : Option (List ℕ)). is_some o ≡ true) (held_at v i a at) some in
        let size : length w ≡ (module_of v.past a).info.size = long ∙ ap (λ (p : Place). p.size) (place_some v i a at)
        ∙ size_at_place v.past.limit (module_of v.past a) (module_of v.past a).offset in
        let slots : (with_block v i w).slots
        ≡ written v.slots v.past.limit (module_of v.past a) (module_of v.past a).offset w =
        ap (λ (p : Place). slots_with v.slots p w) (place_some v i a at)
        ∙ slots_written v a w (module_of v.past a).offset is loaded refl there size in
        record {
          here = held_at (with_block v i w) i a at ∙ ap (λ (s : List Piece). block_in s v.past a) slots
              ∙ reads_written v.images v.past v.slots a w f (are_slots v is) loaded size;
          others = λ j ne. by_other a at slots size j ne (image_of v.past j) refl;
        }

-- as many bytes as the block has
pub writes_block : (v : Vector) (i : ℕ) (p : Place) → IsVector v → is_some (held v i) ≡ true → p ≡ place_of v i
    → (w : List ℕ) → length w ≡ length (bytes_at v.slots p) → Writes v i w (with_block v i w)
writes_block v i p is some e w long =
    let at = placed v i is some in
    let size : length (bytes_at v.slots (place_of v i)) ≡ (place_of v i).size =
    omega (
      arith,
      at.high,
      length-take ((place_of v i).from + (place_of v i).size - (place_of v i).from)
          (drop (place_of v i).from (slot_of v.slots (place_of v i).slot).bytes),
      length-drop (place_of v i).from (slot_of v.slots (place_of v i).slot).bytes,
    ) in
    writes v i w is some (long ∙ ap (λ (q : Place). length (bytes_at v.slots q)) e ∙ size)

length_at : (v : Vector) (i : ℕ) → Placed v i (place_of v i)
    → length (bytes_at v.slots (place_of v i)) ≡ (place_of v i).size
length_at v i at =
    let cut = length-take ((place_of v i).from + (place_of v i).size - (place_of v i).from)
    (drop (place_of v i).from (slot_of v.slots (place_of v i).slot).bytes) in
    omega (arith, at.high, cut, length-drop (place_of v i).from (slot_of v.slots (place_of v i).slot).bytes)

-- a block is as long as its image says
pub held_length : (v : Vector) (i : ℕ) (b : List ℕ) → IsVector v → held v i ≡ Some b → length b ≡ block_length v.past i
unfolding block_length
held_length v i b is e = ap length same ∙ size ∙ by_image (image_of v.past i) refl
  where
    at : Placed v i (place_of v i)
    at = placed v i is (ap is_some e)

    same : b ≡ bytes_at v.slots (place_of v i)
    same = same_Some b (bytes_at v.slots (place_of v i)) (sym e ∙ at.block)

    size : length (bytes_at v.slots (place_of v i)) ≡ (place_of v i).size
    size = length_at v i at

    by_image : (o : Option ℕ) → image_of v.past i ≡ o → (place_of v i).size ≡ size_in v.past (image_of v.past i)
    by_image None none = absurd (none-some b (sym (held_none v i none) ∙ e))
    by_image (Some a) some = ap (λ (p : Place). p.size) (place_some v i a some)
        ∙ size_at_place v.past.limit (module_of v.past a) (module_of v.past a).offset ∙ sym (ap (size_in v.past) some)
