-- What one event does to a vector.
use Rattle.std.proofs.Common.{◌≡◌, ◌≢◌, ℕ, ◌+◌, ◌-◌, ◌<◌, ◌≤◌, true, false, List, ◌++◌, length, get_or, Option, Some}
use Rattle.std.proofs.Common.{None, sym, refl, ap, ◌∙◌, subst, arith, inl, inr}
use Rattle.std.proofs.lemmas.List.Quantifiers.{position-Some}
use Rattle.std.specs.Prelude.{Result, Ok, Err, OnOk, position, option_map, ◌⊎◌, ◌==◌, if◌then◌else◌, is_some, take}
use Rattle.std.specs.Prelude.{drop, option_and_then}
use Rattle.std.specs.Option.{option_or}
use Rattle.std.proofs.lemmas.Bool.{and_parts, cases_eq, both_ways, eq-eqb, eqb-true, ne_eqb, true≢false}
use Rattle.std.proofs.lemmas.Option.{same_Some, none-some}
use Rattle.std.proofs.lemmas.List.{get_or-set_same, get_or-set_other, length-set, length-append, length-take}
use Rattle.std.proofs.lemmas.List.{length-drop}
use Rattle.module_table.specs.declared.modules.ImageInfo.{ImageInfo}
use Rattle.module_table.specs.declared.modules.Module.{Module}
use Rattle.module_table.specs.declared.events.Event.{Event}
use Rattle.module_table.specs.Modules.{no_module, is_loaded}
use Rattle.module_table.specs.Past.{Past, module_of, has_id, after_one, accepts}
use Rattle.module_table.specs.PastLaws.{image_of, live, offset, instance_of}
use Rattle.module_table.proofs.Steps.{numbered_at}
use Rattle.loaded_modules.specs.Images.{JobImages}
use Rattle.loaded_modules.specs.Loader.{fresh_block}
use Rattle.thread_vector.specs.Holding.{IsLeftBy, IsVector}
use Rattle.thread_vector.specs.Statements.{Leaves, FilledAt, MadeAt}
use Rattle.thread_vector.specs.Vectors.{Vector, Piece, no_piece, slot_of, is_number, bytes_for, block_at, block_in}
use Rattle.thread_vector.specs.Vectors.{over, written, held, loaded_as, fresh, caught_up, reached}
use Rattle.thread_vector.proofs.Facts.{Facts, facts, image_has, image_is}
use Rattle.thread_vector.proofs.Blocks.{AreSlots, surplus_place, reads_written, reads_others}
use Rattle.thread_vector.proofs.Events.{Stays, stays_same, none_above, Loads, WasLive, shape_of, left_more, live_after}

-- ---- what is seen of instances

pub held_at : (v : Vector) (i a : ℕ) → image_of v.past i ≡ Some a → held v i ≡ block_in v.slots v.past a
unfolding held
held_at v i a e = ap (option_and_then (block_in v.slots v.past)) e

pub held_none : (v : Vector) (i : ℕ) → image_of v.past i ≡ None → held v i ≡ None
unfolding held
held_none v i e = ap (option_and_then (block_in v.slots v.past)) e

pub fresh_at : (images : JobImages) (p : Past) (i a : ℕ) → image_of p i ≡ Some a
    → fresh images p i ≡ Some (fresh_block images (loaded_as images p a))
unfolding fresh
fresh_at images p i a e = rw e refl

pub fresh_none : (images : JobImages) (p : Past) (i : ℕ) → image_of p i ≡ None → fresh images p i ≡ None
unfolding fresh
fresh_none images p i e = rw e refl

-- of a live instance: the block that it had, or a fresh one if it lies in the surplus
pub caught_at : (v : Vector) (q : Past) (i a : ℕ) → image_of q i ≡ Some a
    → caught_up v q i ≡ option_or (held v i)
    (if is_some (module_of q a).offset then Some (fresh_block v.images (loaded_as v.images q a)) else None)
unfolding caught_up live offset fresh
caught_at v q i a e = rw e refl

pub caught_none : (v : Vector) (q : Past) (i : ℕ) → image_of q i ≡ None → caught_up v q i ≡ None
unfolding caught_up live
caught_none v q i e = rw e refl

or_none : (o : Option (List ℕ)) → o ≡ option_or o None
or_none None = refl
or_none (Some x) = refl

-- a block that was there, and one of the surplus is always there
joined : (slots : List Piece) (limit : ℕ) (m : Module) (o : Option ℕ) (h f : Option (List ℕ))
    → block_at slots limit m o ≡ h → block_at slots limit m o ≡ option_or h (if is_some o then f else None)
joined slots limit m None h f e = e ∙ or_none h
joined slots limit m (Some x) h f e = e ∙ (rw (← e) refl)

-- ---- blocks of images that stay

block_same : (slots : List Piece) (limit : ℕ) (n m : Module) (o r : Option ℕ) → Stays n m → o ≡ r
    → block_at slots limit n o ≡ block_at slots limit m r
block_same slots limit n m o r same e = rw e (by_offset r)
  where
    by_offset : (s : Option ℕ) → block_at slots limit n s ≡ block_at slots limit m s
    by_offset None = rw (same.id, same.instance) refl
    by_offset (Some x) = rw same.info refl

block_stays : (slots : List Piece) (p q : Past) (a : ℕ) → q.limit ≡ p.limit → Stays (module_of q a) (module_of p a)
    → block_in slots q a ≡ block_in slots p a
block_stays slots p q a limit same =
    rw limit (block_same slots p.limit (module_of q a) (module_of p a) (module_of q a).offset
    (module_of p a).offset same same.offset)

pub limit_stays : (images : JobImages) (p : Past) (e : Event) → Facts images p → accepts p e ≡ true
    → (after_one p e).limit ≡ p.limit
limit_stays images p e f accepted = elim (shape_of p e f.is accepted) [ inl k ↦ k.0.limit | inr l ↦ l.0.limit ]

-- ---- blocks after an event

-- what an event leaves of the slots: a new block of the surplus is filled
pub record Fills (v : Vector) (e : Event) (slots : List Piece) : Type 0 where
  pub others : (a : ℕ) → is_loaded (module_of (after_one v.past e) a) ≡ true → a ≢ e.image
      → block_in slots (after_one v.past e) a ≡ block_in v.slots (after_one v.past e) a
  pub kept : is_loaded (module_of v.past e.image) ≡ true
      → block_in slots (after_one v.past e) e.image ≡ block_in v.slots (after_one v.past e) e.image
  pub new : Loads v.past (after_one v.past e) e.image → block_in slots (after_one v.past e) e.image
      ≡ (if is_some (module_of (after_one v.past e) e.image).offset
      then Some (fresh_block v.images (loaded_as v.images (after_one v.past e) e.image)) else None)

pub blocks_after : (v w : Vector) (e : Event) → IsLeftBy v.images v.past → accepts v.past e ≡ true
    → w.past ≡ after_one v.past e → Fills v e w.slots → (i : ℕ) → held w i ≡ caught_up v w.past i
blocks_after v w e left accepted past fills i = by_image (image_of (after_one v.past e) i) refl
    ∙ sym (ap (λ (p : Past). caught_up v p i) past)
  where
    f : Facts v.images v.past
    f = facts v.images v.past left

    q : Past
    q = after_one v.past e

    held_w : (a : ℕ) → image_of (after_one v.past e) i ≡ Some a → held w i ≡ block_in w.slots (after_one v.past e) a
    held_w a at = held_at w i a (ap (λ (p : Past). image_of p i) past ∙ at)
        ∙ ap (λ (p : Past). block_in w.slots p a) past

    was : (a : ℕ) → image_of (after_one v.past e) i ≡ Some a → WasLive v.past (after_one v.past e) i a
        → block_in w.slots (after_one v.past e) a ≡ held v i
    was a at l =
        let has = image_has (after_one v.past e) i a at in
        let same : block_in v.slots (after_one v.past e) a ≡ held v i =
        block_stays v.slots v.past (after_one v.past e) a (limit_stays v.images v.past e f accepted) l.stays
        ∙ sym (held_at v i a l.before) in
        elim (cases_eq a e.image) [
          | inl here ↦ subst (λ (k : ℕ). block_in w.slots (after_one v.past e) k
              ≡ block_in v.slots (after_one v.past e) k) (sym here)
              (fills.kept (subst (λ (k : ℕ). is_loaded (module_of v.past k) ≡ true) here (l.stays.held has.1))) ∙ same
          | inr other ↦ fills.others a has.1 other ∙ same
        ]

    by_image : (o : Option ℕ) → image_of (after_one v.past e) i ≡ o → held w i ≡ caught_up v (after_one v.past e) i
    by_image None at = held_none w i (ap (λ (p : Past). image_of p i) past ∙ at)
        ∙ sym (caught_none v (after_one v.past e) i at)
    by_image (Some a) at = elim (live_after v.images v.past e i a f accepted at) [
      | inl l ↦ held_w a at
          ∙ joined w.slots (after_one v.past e).limit (module_of (after_one v.past e) a)
          (module_of (after_one v.past e) a).offset (held v i)
          (Some (fresh_block v.images (loaded_as v.images (after_one v.past e) a))) (was a at l)
          ∙ sym (caught_at v (after_one v.past e) i a at)
      | inr n ↦ held_w a at
          ∙ subst (λ (k : ℕ). block_in w.slots (after_one v.past e) k
          ≡ (if is_some (module_of (after_one v.past e) k).offset
          then Some (fresh_block v.images (loaded_as v.images (after_one v.past e) k)) else None)) (sym n.image_is)
          (fills.new n.loads)
          ∙ (rw (held_none v i n.before) refl) ∙ sym (caught_at v (after_one v.past e) i a at)
    ]

-- a slot is of no instance that no load made yet
fresh_slot : (v : Vector) (k i : ℕ) → IsVector v → v.past.made < i → bytes_for i (slot_of v.slots k) ≡ None
fresh_slot v k i is h = by_number (slot_of v.slots k).instance refl
  where
    by_number : (o : Option ℕ) → (slot_of v.slots k).instance ≡ o → bytes_for i (slot_of v.slots k) ≡ None
    by_number None e = rw e refl
    by_number (Some number) e = let low : number ≤ v.past.made = is.made k number e in
        rw (e, ne_eqb number i (λ same. absurd (omega arith))) refl

-- nothing is filled: nothing is loaded, or without an offset
pub fills_nothing : (v : Vector) (e : Event) → IsVector v
    → (is_loaded (module_of v.past e.image) ≡ true) ⊎ ((module_of (after_one v.past e) e.image).offset ≡ None)
    → Fills v e v.slots
fills_nothing v e is why = record {
  others = λ a h ne. refl;
  kept = λ h. refl;
  new = λ l. elim why [
    | inl loaded ↦ absurd (both_ways _ l.can.unloaded loaded)
    | inr none ↦
        let number : (module_of (after_one v.past e) e.image).instance ≡ v.past.made + 1 =
        ap (λ (m : Module). m.instance) l.here in
        rw (none, number) (fresh_slot v (module_of (after_one v.past e) e.image).id (v.past.made + 1) is (omega arith))
  ];
}

abbrev pub filled_slots : Vector → Event → ℕ → List Piece
filled_slots v e offset =
    written v.slots (after_one v.past e).limit (module_of (after_one v.past e) e.image) (Some offset)
    (fresh_block v.images (loaded_as v.images (after_one v.past e) e.image))

pub are_slots : (v : Vector) → IsVector v → AreSlots v.slots
are_slots v is = record { long = is.long; surplus = is.surplus }

pub fills_surplus : (v : Vector) (e : Event) (offset : ℕ) → IsVector v → accepts v.past e ≡ true
    → is_loaded (module_of v.past e.image) ≡ false → is_loaded (module_of (after_one v.past e) e.image) ≡ true
    → (module_of (after_one v.past e) e.image).offset ≡ Some offset
    → length (fresh_block v.images (loaded_as v.images (after_one v.past e) e.image))
    ≡ (module_of (after_one v.past e) e.image).info.size → Fills v e (filled_slots v e offset)
fills_surplus v e offset is accepted unloaded loaded at long =
    let f : Facts v.images (after_one v.past e) =
    facts v.images (after_one v.past e) (left_more v.images v.past e is.left accepted) in
    let w : List ℕ = fresh_block v.images (loaded_as v.images (after_one v.past e) e.image) in
    record {
      others = λ a h ne. subst
          (λ (o : Option ℕ). block_in
          (written v.slots (after_one v.past e).limit (module_of (after_one v.past e) e.image) o
          (fresh_block v.images (loaded_as v.images (after_one v.past e) e.image))) (after_one v.past e) a
          ≡ block_in v.slots (after_one v.past e) a) at
          (reads_others v.images (after_one v.past e) v.slots e.image a
          (fresh_block v.images (loaded_as v.images (after_one v.past e) e.image)) f (are_slots v is)
          (λ same. ne (sym same)) loaded h long);
      kept = λ h. absurd (both_ways _ unloaded h);
      new = λ l. subst (λ (o : Option ℕ). block_in
          (written v.slots (after_one v.past e).limit (module_of (after_one v.past e) e.image) o
          (fresh_block v.images (loaded_as v.images (after_one v.past e) e.image))) (after_one v.past e) e.image
          ≡ Some (fresh_block v.images (loaded_as v.images (after_one v.past e) e.image))) at
          (reads_written v.images (after_one v.past e) v.slots e.image
          (fresh_block v.images (loaded_as v.images (after_one v.past e) e.image)) f (are_slots v is) loaded long)
          ∙ (rw at refl);
    }

-- ---- a vector stays one

pub record SlotsStay (old new : List Piece) : Type 0 where
  pub long : length new ≡ length old
  pub surplus : length (slot_of new 0).bytes ≡ length (slot_of old 0).bytes
  pub instance : (k : ℕ) → (slot_of new k).instance ≡ (slot_of old k).instance
  pub others : (k : ℕ) → 1 ≤ k → slot_of new k ≡ slot_of old k

pub slots_same : (slots : List Piece) → SlotsStay slots slots
slots_same slots = record { long = refl; surplus = refl; instance = λ k. refl; others = λ k l. refl }

pub length-over : (a k : ℕ) (xs w : List ℕ) → a + k ≤ length xs → length w ≡ k → length (over a k xs w) ≡ length xs
length-over a k xs w l e =
    omega (
      arith,
      length-append (take a xs) (w ++ drop (a + k) xs),
      length-append w (drop (a + k) xs),
      length-take a xs,
      length-drop (a + k) xs,
    )

pub slots_filled : (slots : List Piece) (limit : ℕ) (m : Module) (offset : ℕ) (w : List ℕ) → length slots ≡ 65
    → limit - offset + m.info.size ≤ length (slot_of slots 0).bytes → length w ≡ m.info.size
    → SlotsStay slots (written slots limit m (Some offset) w)
slots_filled slots limit m offset w long room size = record {
  long = length-set slots 0 piece;
  surplus = ap (λ (x : Piece). length x.bytes) here
      ∙ length-over (limit - offset) m.info.size (slot_of slots 0).bytes w room size;
  instance = λ k. elim (cases_eq k 0) [
    | inl e ↦ rw e (ap (λ (x : Piece). x.instance) here)
    | inr ne ↦ ap (λ (x : Piece). x.instance) (get_or-set_other slots 0 k piece no_piece ne)
  ];
  others = λ k l. get_or-set_other slots 0 k piece no_piece (λ e. absurd (omega arith));
}
  where
    piece : Piece
    piece = record {
      instance = (slot_of slots 0).instance;
      bytes = over (limit - offset) m.info.size (slot_of slots 0).bytes w;
    }

    here : get_or (written slots limit m (Some offset) w) 0 no_piece
        ≡ record {
          instance = (slot_of slots 0).instance;
          bytes = over (limit - offset) m.info.size (slot_of slots 0).bytes w;
        }
    here = get_or-set_same slots 0
        (record {
          instance = (slot_of slots 0).instance;
          bytes = over (limit - offset) m.info.size (slot_of slots 0).bytes w;
        }) no_piece (omega (arith, long))

pub number_is : (i : ℕ) (o : Option ℕ) → is_number i o ≡ true → o ≡ Some i
number_is i None e = absurd (true≢false (sym e))
number_is i (Some n) e = ap Some (eqb-true n i e)

size_stays : (v : Vector) (slots : List Piece) (n : Module) (image : ℕ) → IsVector v → SlotsStay v.slots slots
    → 1 ≤ n.id → Stays n (module_of v.past image) → is_loaded n ≡ true
    → is_number n.instance (slot_of slots n.id).instance ≡ true → length (slot_of slots n.id).bytes ≡ n.info.size
size_stays v slots n image is stay low s here at =
    let slot : slot_of slots n.id ≡ slot_of v.slots (module_of v.past image).id = stay.others n.id low
    ∙ ap (slot_of v.slots) s.id in
    let was : is_number (module_of v.past image).instance (slot_of v.slots (module_of v.past image).id).instance
    ≡ true = rw (← s.instance, ← slot) at in
    ap (λ (x : Piece). length x.bytes) slot ∙ is.sizes image (s.held here) was
    ∙ sym (ap (λ (i : ImageInfo). i.size) s.info)

sizes_after : (v : Vector) (e : Event) (slots : List Piece) → IsVector v → accepts v.past e ≡ true
    → SlotsStay v.slots slots → (image : ℕ) → is_loaded (module_of (after_one v.past e) image) ≡ true
    → is_number (module_of (after_one v.past e) image).instance
    (slot_of slots (module_of (after_one v.past e) image).id).instance ≡ true
    → length (slot_of slots (module_of (after_one v.past e) image).id).bytes
    ≡ (module_of (after_one v.past e) image).info.size
sizes_after v e slots is accepted stay image here at =
    let f = facts v.images v.past is.left in
    let g = facts v.images (after_one v.past e) (left_more v.images v.past e is.left accepted) in
    let low : 1 ≤ (module_of (after_one v.past e) image).id =
    (numbered_at (after_one v.past e) image g.is).id.low here in
    elim (shape_of v.past e f.is accepted) [
      | inl k ↦ size_stays v slots (module_of (after_one v.past e) image) image is stay low (k.0.each image) here at
      | inr l ↦ elim (cases_eq image e.image) [
        | inr other ↦ size_stays v slots (module_of (after_one v.past e) image) image is stay low
            (subst (λ (m : Module). Stays m (module_of v.past image)) (sym (l.0.others image other))
            (stays_same (module_of v.past image))) here at
        | inl same ↦
            let number : (module_of (after_one v.past e) image).instance ≡ v.past.made + 1 =
            ap (λ (m : Module). m.instance) (ap (module_of (after_one v.past e)) same ∙ l.0.here) in
            let made : (module_of (after_one v.past e) image).instance ≤ v.past.made =
            is.made (module_of (after_one v.past e) image).id (module_of (after_one v.past e) image).instance
            (sym (stay.instance (module_of (after_one v.past e) image).id)
            ∙ number_is (module_of (after_one v.past e) image).instance
            (slot_of slots (module_of (after_one v.past e) image).id).instance at) in
            absurd (omega arith)
      ]
    ]

pub vector_after : (v w : Vector) (e : Event) → IsVector v → accepts v.past e ≡ true → Leaves v w (after_one v.past e)
    → SlotsStay v.slots w.slots → IsVector w
vector_after v w e is accepted leaves stay =
    let f : Facts v.images v.past = facts v.images v.past is.left in
    record {
      low = rw leaves.thread is.low;
      high = rw leaves.thread is.high;
      left = rw (leaves.images, leaves.past) (left_more v.images v.past e is.left accepted);
      long = stay.long ∙ is.long;
      surplus = stay.surplus ∙ is.surplus;
      made = λ k number at.
          let low : number ≤ v.past.made = is.made k number (sym (stay.instance k) ∙ at) in
          let grows : v.past.made ≤ (after_one v.past e).made =
          elim (shape_of v.past e f.is accepted)
          [ inl k ↦ omega (arith, k.0.made) | inr l ↦ omega (arith, l.0.made) ] in
          rw leaves.past (omega arith);
      sizes = rw leaves.past (sizes_after v e w.slots is accepted stay);
    }

-- ---- event by event

or_twice : (h s : Option (List ℕ)) → option_or (option_or h s) s ≡ option_or h s
or_twice (Some x) s = refl
or_twice None None = refl
or_twice None (Some y) = refl

abbrev surplus_of : JobImages → Past → ℕ → Option (List ℕ)
surplus_of images p a = if is_some (module_of p a).offset then Some (fresh_block images (loaded_as images p a))
    else None

surplus_stays : (images : JobImages) (p q : Past) (a : ℕ) → Stays (module_of q a) (module_of p a)
    → surplus_of images q a ≡ surplus_of images p a
surplus_stays images p q a s = rw (s.offset, s.instance, s.id, s.info) refl

-- what was seen between is of no account, where it was seen event by event
pub caught_more : (v0 v w : Vector) (e : Event) → IsLeftBy v.images v.past → accepts v.past e ≡ true
    → v.images ≡ v0.images → w.past ≡ after_one v.past e
    → ((i : ℕ) → v.past.made < i → held v0 i ≡ None) → ((i : ℕ) → held v i ≡ caught_up v0 v.past i)
    → ((i : ℕ) → held w i ≡ caught_up v w.past i) → (i : ℕ) → held w i ≡ caught_up v0 w.past i
caught_more v0 v w e left accepted images past old before step i = step i ∙ ap (λ (p : Past). caught_up v p i) past
    ∙ by_image (image_of (after_one v.past e) i) refl ∙ sym (ap (λ (p : Past). caught_up v0 p i) past)
  where
    f : Facts v.images v.past
    f = facts v.images v.past left

    by_image : (o : Option ℕ) → image_of (after_one v.past e) i ≡ o
        → caught_up v (after_one v.past e) i ≡ caught_up v0 (after_one v.past e) i
    by_image None at = caught_none v (after_one v.past e) i at ∙ sym (caught_none v0 (after_one v.past e) i at)
    by_image (Some a) at = elim (live_after v.images v.past e i a f accepted at) [
      | inl l ↦ caught_at v (after_one v.past e) i a at
          ∙ ap (λ (m : JobImages). option_or (held v i) (surplus_of m (after_one v.past e) a)) images
          ∙ ap (λ (o : Option (List ℕ)). option_or o (surplus_of v0.images (after_one v.past e) a))
          (before i ∙ caught_at v0 v.past i a l.before)
          ∙ ap (λ (s : Option (List ℕ)). option_or (option_or (held v0 i) s)
          (surplus_of v0.images (after_one v.past e) a))
          (sym (surplus_stays v0.images v.past (after_one v.past e) a l.stays))
          ∙ or_twice (held v0 i) (surplus_of v0.images (after_one v.past e) a)
          ∙ sym (caught_at v0 (after_one v.past e) i a at)
      | inr n ↦ caught_at v (after_one v.past e) i a at
          ∙ (rw (held_none v i n.before, images, old i (omega (arith, n.number))) refl)
          ∙ sym (caught_at v0 (after_one v.past e) i a at)
    ]

-- before any event
pub caught_first : (v : Vector) (i : ℕ) → held v i ≡ caught_up v v.past i
caught_first v i = by_image (image_of v.past i) refl
  where
    by_image : (o : Option ℕ) → image_of v.past i ≡ o → held v i ≡ caught_up v v.past i
    by_image None at = held_none v i at ∙ sym (caught_none v v.past i at)
    by_image (Some a) at = held_at v i a at
        ∙ joined v.slots v.past.limit (module_of v.past a) (module_of v.past a).offset (held v i)
        (Some (fresh_block v.images (loaded_as v.images v.past a))) (sym (held_at v i a at))
        ∙ sym (caught_at v v.past i a at)

pub none_held : (v : Vector) (i : ℕ) → IsLeftBy v.images v.past → v.past.made < i → held v i ≡ None
none_held v i left h = held_none v i (none_above v.past i (facts v.images v.past left).is h)

pub made_grows : (images : JobImages) (p : Past) (e : Event) → IsLeftBy images p → accepts p e ≡ true
    → p.made ≤ (after_one p e).made
made_grows images p e left accepted =
    elim (shape_of p e (facts images p left).is accepted)
    [ inl k ↦ omega (arith, k.0.made) | inr l ↦ omega (arith, l.0.made) ]

blocks_same : (v w u : Vector) (q : Past) → w ≡ u → ((i : ℕ) → held u i ≡ caught_up v q i) → (i : ℕ)
    → held w i ≡ caught_up v q i
blocks_same v w u q e h i = ap (λ (x : Vector). held x i) e ∙ h i

-- an event that makes no instance
pub taken_kept : (v : Vector) (e : Event) → IsVector v → accepts v.past e ≡ true
    → is_loaded (module_of v.past e.image) ≡ true → (i : ℕ)
    → held (record v { past = after_one v.past e }) i ≡ caught_up v (after_one v.past e) i
taken_kept v e is accepted loaded =
    blocks_after v (record v { past = after_one v.past e }) e is.left accepted refl (fills_nothing v e is (inl loaded))

-- one that makes one
pub taken_new : (v w : Vector) (e : Event) → IsVector v → accepts v.past e ≡ true
    → is_loaded (module_of v.past e.image) ≡ false → is_loaded (module_of (after_one v.past e) e.image) ≡ true
    → (o : Option ℕ) → (module_of (after_one v.past e) e.image).offset ≡ o
    → FilledAt (record v { past = after_one v.past e }) e.image w o → (i : ℕ)
    → held w i ≡ caught_up v (after_one v.past e) i
taken_new v w e is accepted unloaded loaded None at same =
    blocks_same v w (record v { past = after_one v.past e }) (after_one v.past e) same
    (blocks_after v (record v { past = after_one v.past e }) e is.left accepted refl
    (fills_nothing v e is (inr at)))
taken_new v w e is accepted unloaded loaded (Some offset) at filled =
    blocks_same v w (record v { past = after_one v.past e; slots = filled_slots v e offset })
    (after_one v.past e) filled.0
    (blocks_after v (record v { past = after_one v.past e; slots = filled_slots v e offset }) e is.left accepted refl
    (fills_surplus v e offset is accepted unloaded loaded at filled.1))

-- an accepted event of an image that is not loaded loads it
pub then_loaded : (v : Vector) (e : Event) → IsVector v → accepts v.past e ≡ true
    → is_loaded (module_of v.past e.image) ≡ false → is_loaded (module_of (after_one v.past e) e.image) ≡ true
then_loaded v e is accepted unloaded = elim (shape_of v.past e (facts v.images v.past is.left).is accepted) [
  | inl k ↦ absurd (both_ways _ unloaded k.1)
  | inr l ↦ subst (λ (m : Module). is_loaded m ≡ true) (sym l.0.here) refl
]

-- ---- other slots, and nothing seen

pub id_low : (v : Vector) (image : ℕ) → IsVector v → is_loaded (module_of v.past image) ≡ true
    → 1 ≤ (module_of v.past image).id
id_low v image is here = (numbered_at v.past image (facts v.images v.past is.left).is).id.low here

pub id_high : (v : Vector) (image : ℕ) → IsVector v → is_loaded (module_of v.past image) ≡ true
    → (module_of v.past image).id ≤ 64
id_high v image is here = (numbered_at v.past image (facts v.images v.past is.left).is).id.high here

pub vector_with : (v : Vector) (slots : List Piece) → IsVector v → SlotsStay v.slots slots
    → IsVector (record v { slots = slots })
vector_with v slots is stay = record {
  low = is.low;
  high = is.high;
  left = is.left;
  long = stay.long ∙ is.long;
  surplus = stay.surplus ∙ is.surplus;
  made = λ k number at. is.made k number (sym (stay.instance k) ∙ at);
  sizes = λ image here at. size_stays v slots (module_of v.past image) image is stay (id_low v image is here)
      (stays_same (module_of v.past image)) here at;
}

pub vector_filled : (v : Vector) (image offset : ℕ) → IsVector v → (module_of v.past image).offset ≡ Some offset
    → length (fresh_block v.images (loaded_as v.images v.past image)) ≡ (module_of v.past image).info.size
    → IsVector (record v {
      slots =
          written v.slots v.past.limit (module_of v.past image) (Some offset)
          (fresh_block v.images (loaded_as v.images v.past image));
    })
vector_filled v image offset is at long =
    let place = surplus_place v.images v.past image offset is.left at in
    vector_with v (written v.slots v.past.limit (module_of v.past image) (Some offset)
    (fresh_block v.images (loaded_as v.images v.past image))) is
    (slots_filled v.slots v.past.limit (module_of v.past image) offset
    (fresh_block v.images (loaded_as v.images v.past image)) is.long
    (omega (arith, place.0, place.2, is.surplus)) long)

-- ---- a block of its own

pub vector_made : (v : Vector) (image : ℕ) (w : List ℕ) → IsVector v → is_loaded (module_of v.past image) ≡ true
    → length w ≡ (module_of v.past image).info.size
    → IsVector (record v { slots = written v.slots v.past.limit (module_of v.past image) None w })
vector_made v image w is loaded long =
    let m = module_of v.past image in
    let low : 1 ≤ (module_of v.past image).id = id_low v image is loaded in
    let high : (module_of v.past image).id ≤ 64 = id_high v image is loaded in
    let f = facts v.images v.past is.left in
    let here : slot_of (written v.slots v.past.limit (module_of v.past image) None w) (module_of v.past image).id
    ≡ record { instance = Some (module_of v.past image).instance; bytes = w } =
    get_or-set_same v.slots (module_of v.past image).id
    (record { instance = Some (module_of v.past image).instance; bytes = w }) no_piece (omega (arith, is.long)) in
    let there : (k : ℕ) → k ≢ (module_of v.past image).id
    → slot_of (written v.slots v.past.limit (module_of v.past image) None w) k ≡ slot_of v.slots k =
    λ k ne. get_or-set_other v.slots (module_of v.past image).id k
    (record { instance = Some (module_of v.past image).instance; bytes = w }) no_piece ne in
    record {
      low = is.low;
      high = is.high;
      left = is.left;
      long = length-set v.slots (module_of v.past image).id
          (record { instance = Some (module_of v.past image).instance; bytes = w }) ∙ is.long;
      surplus = ap (λ (x : Piece). length x.bytes) (there 0 (λ e. absurd (omega arith))) ∙ is.surplus;
      made = λ k number at. elim (cases_eq k (module_of v.past image).id) [
        | inl e ↦
            let same : (module_of v.past image).instance ≡ number = same_Some (module_of v.past image).instance number
            (sym (ap (λ (x : Piece). x.instance)
            (ap (slot_of (written v.slots v.past.limit (module_of v.past image) None w)) e ∙ here)) ∙ at) in
            subst (λ (n : ℕ). n ≤ v.past.made) same ((numbered_at v.past image f.is).instance loaded)
        | inr ne ↦ is.made k number (sym (ap (λ (x : Piece). x.instance) (there k ne)) ∙ at)
      ];
      sizes = λ other loaded' at. elim (cases_eq other image) [
        | inl e ↦ rw e (ap (λ (x : Piece). length x.bytes) here ∙ long)
        | inr ne ↦
            let slot = there (module_of v.past other).id (f.own other image ne loaded' loaded).1 in
            ap (λ (x : Piece). length x.bytes) slot
            ∙ is.sizes other loaded'
            (sym (ap (λ (x : Piece). is_number (module_of v.past other).instance x.instance) slot) ∙ at)
      ];
    }

-- ---- what reaching does

pub reached_there : (v : Vector) (asked : ℕ) → is_some (held v asked) ≡ true → (i : ℕ) → held v i ≡ reached v asked i
unfolding reached
reached_there v asked there i = elim (cases_eq i asked) [
  | inl e ↦ rw (e, eq-eqb asked asked refl) (or_some (held v asked) (fresh v.images v.past asked) there)
  | inr ne ↦ rw (ne_eqb i asked ne) refl
]
  where
    or_some : (o r : Option (List ℕ)) → is_some o ≡ true → o ≡ option_or o r
    or_some None r h = absurd (true≢false (sym h))
    or_some (Some x) r h = refl

is_none_from : (o : Option (List ℕ)) → is_some o ≡ false → o ≡ None
is_none_from None h = refl
is_none_from (Some x) h = absurd (true≢false h)

-- a block that is not there is none of the surplus
pub no_offset : (v : Vector) (asked image : ℕ) → image_of v.past asked ≡ Some image → is_some (held v asked) ≡ false
    → (module_of v.past image).offset ≡ None
no_offset v asked image at none =
    by_offset (module_of v.past image).offset
    (is_none_from (block_in v.slots v.past image)
    (subst (λ (o : Option (List ℕ)). is_some o ≡ false) (held_at v asked image at) none))
  where
    by_offset : (o : Option ℕ) → block_at v.slots v.past.limit (module_of v.past image) o ≡ None → o ≡ None
    by_offset None e = refl
    by_offset (Some x) e = absurd (none-some _ (sym e))

pub reached_made : (v w : Vector) (asked image : ℕ) → IsVector v → image_of v.past asked ≡ Some image
    → is_some (held v asked) ≡ false → MadeAt v image w → (i : ℕ) → held w i ≡ reached v asked i
unfolding reached
reached_made v w asked image is at none made i = ap (λ (x : Vector). held x i) made.slots
    ∙ by_image (image_of v.past i) refl
  where
    f : Facts v.images v.past
    f = facts v.images v.past is.left

    loaded : is_loaded (module_of v.past image) ≡ true
    loaded = (image_has v.past asked image at).1

    bytes : List ℕ
    bytes = fresh_block v.images (loaded_as v.images v.past image)

    offset_none : (module_of v.past image).offset ≡ None
    offset_none = no_offset v asked image at none

    new : Vector
    new = record v { slots = written v.slots v.past.limit (module_of v.past image) None bytes }

    by_image : (o : Option ℕ) → image_of v.past i ≡ o
        → held new i ≡ (if i == asked then option_or (held v asked) (fresh v.images v.past asked) else held v i)
    by_image None e = rw (ne_eqb i asked (λ same. none-some image (sym e ∙ ap (image_of v.past) same ∙ at)))
        (held_none new i e ∙ sym (held_none v i e))
    by_image (Some other) e = elim (cases_eq i asked) [
      | inl same ↦
          let there : other ≡ image = same_Some other image (sym e ∙ ap (image_of v.past) same ∙ at) in
          let read : block_in new.slots v.past image ≡ Some bytes =
          subst (λ (o : Option ℕ). block_in
          (written v.slots v.past.limit (module_of v.past image) o bytes) v.past image ≡ Some bytes) offset_none
          (reads_written v.images v.past v.slots image bytes f (are_slots v is) loaded made.long) in
          rw (eq-eqb i asked same)
          (held_at new i other e ∙ ap (block_in new.slots v.past) there ∙ read
          ∙ sym (ap (λ (o : Option (List ℕ)). option_or o (fresh v.images v.past asked))
          (is_none_from (held v asked) none) ∙ fresh_at v.images v.past asked image at))
      | inr ne ↦
          let has = image_has v.past i other e in
          let apart : image ≢ other =
          λ same. ne (sym has.2 ∙ ap (λ (k : ℕ). (module_of v.past k).instance) (sym same)
          ∙ (image_has v.past asked image at).2) in
          let read : block_in new.slots v.past other ≡ block_in v.slots v.past other =
          subst (λ (o : Option ℕ). block_in
          (written v.slots v.past.limit (module_of v.past image) o bytes) v.past other
          ≡ block_in v.slots v.past other) offset_none
          (reads_others v.images v.past v.slots image other bytes f (are_slots v is) apart loaded has.1 made.long) in
          rw (ne_eqb i asked ne) (held_at new i other e ∙ read ∙ sym (held_at v i other e))
    ]

pub reached_nowhere : (v : Vector) (asked : ℕ) → image_of v.past asked ≡ None → (i : ℕ) → held v i ≡ reached v asked i
unfolding reached fresh
reached_nowhere v asked none i = elim (cases_eq i asked) [
  | inl e ↦ rw (e, eq-eqb asked asked refl, held_none v asked none, none) refl
  | inr ne ↦ rw (ne_eqb i asked ne) refl
]

-- what a success says
pub on_ok : {T E : Type 0} {P Q : Type 0} (r : Result T E) → (P → Q) → OnOk r P → OnOk r Q
on_ok (Ok x) f h = f h
on_ok (Err x) f h = h

-- what has a module id is live
pub instance_live : (v : Vector) (id i : ℕ) → IsVector v → instance_of v.past id ≡ Some i → live v.past i ≡ true
unfolding instance_of live
instance_live v id i is e = by_image (position (has_id id) v.past.modules) refl e
  where
    by_image : (o : Option ℕ) → position (has_id id) v.past.modules ≡ o
        → option_map (λ (image : ℕ). (module_of v.past image).instance) o ≡ Some i → is_some (image_of v.past i) ≡ true
    by_image None at some = absurd (none-some i some)
    by_image (Some image) at some =
        let here = (position-Some (has_id id) v.past.modules image no_module at).1 in
        let loaded = (and_parts (is_loaded (module_of v.past image)) ((module_of v.past image).id == id) here).0 in
        ap is_some (subst (λ (k : ℕ). image_of v.past k ≡ Some image)
        (same_Some (module_of v.past image).instance i some)
        (image_is v.past image (facts v.images v.past is.left).own loaded))
