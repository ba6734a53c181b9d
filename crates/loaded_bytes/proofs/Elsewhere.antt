-- Nothing is found of an instance but in the classes of its sections and in the room.
use Rattle.std.proofs.Common.{◌≡◌, ◌+◌, ◌-◌, ◌<◌, ◌≤◌, ◌⊎◌, ◌^◌, ◌&&◌, ◌∙◌, ℕ, ◌==◌}
use Rattle.std.proofs.Common.{suc, Bool, true, false, not, List, [], ◌∷◌, ◌++◌}
use Rattle.std.proofs.Common.{Some, None, length, map, inl, inr, refl, sym, ap, subst, arith, if◌then◌else◌}
use Rattle.std.specs.Prelude.{nat_lt, slice_get}
use Rattle.std.specs.List.{All}
use Rattle.std.proofs.lemmas.Bool.{le-leb, lt-ltb}
use Rattle.std.proofs.lemmas.Bool.Decides.{nat_tests}
use Rattle.std.proofs.lemmas.List.{length-map}
use Rattle.std.proofs.lemmas.List.Elements.{All-append, All-cons, All-nil, filter-append}
use Rattle.guest_operands.specs.declared.space.Access.{Access}
use Rattle.guest_operands.specs.declared.space.Access.TheVariants.{Read, Write, Run}
use Rattle.guest_operands.specs.Ranges.{Range, allows, byte_in, grants, holds}
use Rattle.image_file.specs.declared.part.PartClass.{PartClass}
use Rattle.image_file.specs.declared.part.PartClass.TheVariants as part_class
use Rattle.image_file.specs.Spelled.{Part}
use Rattle.image_writer.specs.declared.outline.PartPlace.{PartPlace}
use Rattle.image_writer.specs.Contents.{part_in}
use Rattle.image_writer.specs.Tables.{tables_part}
use Rattle.link_core.specs.Bytes.{file}
use Rattle.link_core.specs.Images.{contents, file_kind, filled, got_places, image_of, stub_places}
use Rattle.link_faults.specs.ImageKinds.{base_of}
use Rattle.link_needs.specs.Linking.{Linking, layout}
use Rattle.loaded_modules.specs.declared.instance.Instance.{Instance}
use Rattle.loaded_modules.specs.Loader.{bias, part_bytes}
use Rattle.object_faults.specs.declared.class.SectionClass.{SectionClass}
use Rattle.object_faults.specs.declared.class.SectionClass.TheVariants.{Executable, ReadOnly, Tls, Writable}
use Rattle.relocated_parts.proofs.Fold.{left_long}
use Rattle.thread_blocks.specs.JobLoads.{instance_part, job_loads, parts_from}
use Rattle.tls_layout.specs.declared.extent.Extent.{Extent}
use Rattle.tls_layout.specs.Places.{extent_for}
use Rattle.tls_layout.specs.Places.{room, writable}
use Rattle.whole_meaning.specs.Spots.{bias_of, in_room}
use Rattle.loaded_bytes.specs.Laws.{IsInstanceOf, images_of}
use Rattle.loaded_bytes.specs.Places.{AllElseIsInTheRoom, IsInMoved}
use Rattle.loaded_bytes.proofs.ClassParts.{class_of_part, class_part, part_long}
use Rattle.loaded_bytes.proofs.Data.{code, constants, from-append, front_parts, initial}
use Rattle.loaded_bytes.proofs.Data.{parts_are, places_long, rest, written}
use Rattle.loaded_bytes.proofs.Places.{found_own, holds_so, inside, kind_bias}
use Rattle.loaded_bytes.proofs.Ranges.{still}
use Rattle.loaded_bytes.proofs.RoomParts.{places_added, tables_added}
use Rattle.loaded_bytes.proofs.Still.{fixed_is, not_table}
use Rattle.link_needs.proofs.Reached.{both}
use Rattle.std.specs.Option.{option_map_or}

-- what is found in two lists is found in one of them
found_either : (access : Access) (xs ys : List (Range ℕ)) (place byte : ℕ) → byte_in access (xs ++ ys) place ≡ Some byte
    → (byte_in access xs place ≡ Some byte) ⊎ (byte_in access ys place ≡ Some byte)
found_either access [] ys place byte e = inr e
found_either access (x ∷ xs) ys place byte e =
    of_test (grants access x place) e (found_either access xs ys place byte)
  where
    of_test : (t : Bool) → (if t then slice_get x.bytes (place - x.start) else byte_in access (xs ++ ys) place)
        ≡ Some byte
        → (byte_in access (xs ++ ys) place ≡ Some byte
        → (byte_in access xs place ≡ Some byte) ⊎ (byte_in access ys place ≡ Some byte))
        → ((if t then slice_get x.bytes (place - x.start) else byte_in access xs place) ≡ Some byte)
        ⊎ (byte_in access ys place ≡ Some byte)
    of_test true e later = inl e
    of_test false e rest = rest e

-- what no thread writes is not written
pub never_written : (ranges : List (Range ℕ)) (place : ℕ) → byte_in Write (still ranges) place ≡ None
never_written [] place = refl
never_written (x ∷ xs) place = of_test x.writable refl (never_written xs place)
  where
    of_test : (t : Bool) → x.writable ≡ t → byte_in Write (still xs) place ≡ None
        → byte_in Write (if not t then x ∷ still xs else still xs) place ≡ None
    of_test true e rest = rest
    of_test false e rest = rw e rest

module _ (ls : List Linking) (l : Linking) (x : Instance) (is : IsInstanceOf ls l x) (access : Access) (place byte : ℕ)
  where
    -- it is found in some parts, of which the first has number n
    abbrev pub Found : ℕ → List Part → Type 0
    Found n ps = byte_in access (still (parts_from (images_of ls) (image_of l) x n ps)) place ≡ Some byte

    abbrev pub lies : ℕ → Part → Range ℕ
    lies n p = instance_part (images_of ls) (image_of l) x n p

    pub split : (n : ℕ) (ps qs : List Part) → Found n (ps ++ qs) → Found n ps ⊎ Found (n + length ps) qs
    split n ps qs e =
        let one = parts_from (images_of ls) (image_of l) x n ps in
        let two = parts_from (images_of ls) (image_of l) x (n + length ps) qs in
        let both : still (parts_from (images_of ls) (image_of l) x n (ps ++ qs)) ≡ still one ++ still two =
        ap still (from-append ls l x n ps qs) ∙ filter-append (λ (range : Range ℕ). not range.writable) one two in
        found_either access (still one) (still two) place byte
        (sym (ap (λ (ranges : List (Range ℕ)). byte_in access ranges place) both) ∙ e)

    -- ** one part

    pub record IsHere (n : ℕ) (p : Part) : Type 0 where
      pub allowed : allows access (lies n p) ≡ true
      pub still_there : (lies n p).writable ≡ false
      pub held : holds (lies n p) place ≡ true

    pub one : (n : ℕ) (p : Part) → Found n (p ∷ []) → IsHere n p
    one n p e = of_written (lies n p).writable refl e
      where
        of_grant : (t : Bool) → grants access (lies n p) place ≡ t
            → (if t then slice_get (lies n p).bytes (place - (lies n p).start) else None) ≡ Some byte
            → grants access (lies n p) place ≡ true
        of_grant true g e = g
        of_grant false g e = absurd (cc)

        of_written : (t : Bool) → (lies n p).writable ≡ t
            → byte_in access (if not t then lies n p ∷ [] else []) place ≡ Some byte → IsHere n p
        of_written true w e = absurd (cc)
        of_written false w e =
            let g = both (allows access (lies n p)) (holds (lies n p) place)
            (of_grant (grants access (lies n p) place) refl e) in
            record { allowed = g.0; still_there = w; held = g.1 }

    pub bounds : (n : ℕ) (p : Part) → IsHere n p
        → (p.address + bias_of l.kind x.number ≤ place) × (place < p.address + length p.bytes + bias_of l.kind x.number)
    bounds n p here =
        let at = holds_so (p.address + bias (image_of l).kind x.number) place
        (length (part_bytes (images_of ls) (image_of l) x p)) here.held in
        let long = left_long (images_of ls) (image_of l) x p in
        let moved = kind_bias ls l x is in
        (omega (arith, at.0, moved), omega (arith, at.0, at.1, long, moved))

    -- ** a class

    of_class : (n : ℕ) (c : SectionClass)
        → Found n (map (part_in (file_kind l.kind) (file l)) (filled (class_of_part c) (extent_for c (layout l))))
        → IsHere n (class_part l c) × IsInMoved l (bias_of l.kind x.number) c place
    of_class n c e =
        of_test (nat_lt (extent_for c (layout l)).start (extent_for c (layout l)).end) refl e
      where
        less : (a b : ℕ) → nat_lt a b ≡ true → a < b
        less a b e = grind (arith, nat_tests)

        of_test : (t : Bool) → nat_lt (extent_for c (layout l)).start (extent_for c (layout l)).end ≡ t
            → Found n (map (part_in (file_kind l.kind) (file l))
            (if t
            then record {
              class = class_of_part c;
              address = (extent_for c (layout l)).start;
              size = (extent_for c (layout l)).end - (extent_for c (layout l)).start;
            } ∷ []
            else []))
            → IsHere n (class_part l c) × IsInMoved l (bias_of l.kind x.number) c place
        of_test true t e =
            let some = less (extent_for c (layout l)).start (extent_for c (layout l)).end t in
            let here = one n (class_part l c) e in
            let at = bounds n (class_part l c) here in
            let long = part_long l is.given is.links c some in (
              here,
              (
                place - bias_of l.kind x.number,
                omega (arith, at.0),
                (omega (arith, at.0), omega (arith, at.0, at.1, long, some)),
              ),
            )
        of_test false t e = absurd (cc)

    -- ** what is added

    above : (n : ℕ) (ps : List Part) → All (λ (p : Part). room (layout l).kind (layout l).sections ≤ p.address) ps
        → Found n ps
        → room (layout l).kind (layout l).sections + bias_of l.kind x.number ≤ place
    above n [] all e = absurd (cc)
    above n (p ∷ ps) all e = elim (split n (p ∷ []) ps e) [
      | inl here ↦
          let at = bounds n p (one n p here) in
          let low : room (layout l).kind (layout l).sections ≤ p.address = all 0 p (omega arith) in
          omega (arith, at.0, low)
      | inr there ↦
          above (n + 1) ps (λ k d below. all (suc k) d (omega (arith, below))) there
    ]

    all_map : (ps : List PartPlace) → All (λ (p : PartPlace). room (layout l).kind (layout l).sections ≤ p.address) ps
        → All (λ (p : Part). room (layout l).kind (layout l).sections ≤ p.address)
        (map (part_in (file_kind l.kind) (file l)) ps)
    all_map [] all = All-nil (λ (p : Part). room (layout l).kind (layout l).sections ≤ p.address)
    all_map (p ∷ ps) all =
        let first : room (layout l).kind (layout l).sections ≤ p.address = all 0 p (omega arith) in
        All-cons (λ (q : Part). room (layout l).kind (layout l).sections ≤ q.address)
        (part_in (file_kind l.kind) (file l) p)
        (map (part_in (file_kind l.kind) (file l)) ps) first
        (all_map ps (λ k d below. all (suc k) d (omega (arith, below))))

    pub in_rest : (n : ℕ) → Found n (rest ls l x) → Found 0 (image_of l).parts
        → in_room l (bias_of l.kind x.number) place ≡ true
    unfolding in_room
    in_rest n e whole =
        let added = map (part_in (file_kind l.kind) (file l)) (got_places l ++ stub_places l) in
        let all = All-append (λ (p : Part). room (layout l).kind (layout l).sections ≤ p.address) added
        (tables_part (contents l) ∷ [])
        (all_map (got_places l ++ stub_places l) (places_added l))
        (All-cons (λ (p : Part). room (layout l).kind (layout l).sections ≤ p.address) (tables_part (contents l)) []
        (tables_added l is.given is.links)
        (All-nil (λ (p : Part). room (layout l).kind (layout l).sections ≤ p.address))) in
        let low = above n (added ++ (tables_part (contents l) ∷ [])) all e in
        let own = found_own ls l x is 0 (image_of l).parts (inside ls l x is) access place byte whole in
        rw (
          le-leb (room (layout l).kind (layout l).sections + bias_of l.kind x.number) place low,
          lt-ltb place (base_of l.kind + 2 ^ 26 + bias_of l.kind x.number) own.1,
        ) refl

    -- ** all

    -- it is found in the part of a class
    abbrev pub In : SectionClass → Type 0
    In c = (n : ℕ) × IsHere n (class_part l c) × IsInMoved l (bias_of l.kind x.number) c place

    filled_one : (kind : PartClass) (extent : Extent) → extent.start < extent.end → length (filled kind extent) ≡ 1
    filled_one kind extent some = rw (lt-ltb extent.start extent.end some) refl

    -- the data is written by threads, so it is not among these
    not_data : (n : ℕ) → n ≡ front_parts ls l x → Found n (map (part_in (file_kind l.kind) (file l)) (written ls l x))
        → ⊥
    not_data n same e =
        let here = of_class n (Writable true) e in
        let within = here.1.2 in
        let some : (extent_for (Writable true) (layout l)).start < (extent_for (Writable true) (layout l)).end =
        omega (arith, within.0, within.1) in
        let count = filled_one part_class.Writable (writable (layout l).kind (layout l).sections) some in
        let long = places_long ls l x in
        let other = not_table l n (omega (arith, same, count, long)) in
        let still_there = here.0.still_there in
        clash (option_map_or (λ (own : ℕ). own == n) (image_of l).got false) other still_there
      where
        clash : (t : Bool) → t ≡ false → (true && not t) ≡ false → ⊥
        clash true e f = cc
        clash false e f = cc

    pub where_found : Found 0 (image_of l).parts
        → In Executable ⊎ (In ReadOnly ⊎ (In (Tls true) ⊎ ((n : ℕ) × Found n (rest ls l x))))
    where_found e =
        let a = map (part_in (file_kind l.kind) (file l)) (code ls l x) in
        let b = map (part_in (file_kind l.kind) (file l)) (constants ls l x) in
        let c = map (part_in (file_kind l.kind) (file l)) (initial ls l x) in
        let d = map (part_in (file_kind l.kind) (file l)) (written ls l x) in
        let r = rest ls l x in
        let n : ℕ = 0 + length a in
        let m : ℕ = n + length b in
        let k : ℕ = m + length c in
        let same : k ≡ front_parts ls l x =
        omega (
          arith,
          length-map (code ls l x) (part_in (file_kind l.kind) (file l)),
          length-map (constants ls l x) (part_in (file_kind l.kind) (file l)),
          length-map (initial ls l x) (part_in (file_kind l.kind) (file l)),
        ) in
        let whole : Found 0 (a ++ (b ++ (c ++ (d ++ r)))) =
        subst (λ (ps : List Part). Found 0 ps) (parts_are ls l x) e in
        elim (split 0 a (b ++ (c ++ (d ++ r))) whole) [
          | inl here ↦ inl (let c = of_class 0 Executable here in (0, c.0, c.1))
          | inr past ↦ elim (split n b (c ++ (d ++ r)) past) [
            | inl here ↦ inr (inl (let c = of_class n ReadOnly here in (n, c.0, c.1)))
            | inr past ↦ elim (split m c (d ++ r) past) [
              | inl here ↦ inr (inr (inl (let c = of_class m (Tls true) here in (m, c.0, c.1))))
              | inr past ↦ elim (split k d r past) [
                | inl here ↦ absurd (not_data k same here)
                | inr past ↦ inr (inr (inr (k + length d, past)))
              ]
            ]
          ]
        ]

-- the law
pub elsewhere : AllElseIsInTheRoom
elsewhere ls l x is = record {
  read = λ place byte e. reads place byte (found Read place byte e);
  run = λ place byte e. runs place byte (found Run place byte e);
  write = λ place.
      ap (λ (ranges : List (Range ℕ)). byte_in Write ranges place) (fixed_is ls l x is.image)
      ∙ never_written (parts_from (images_of ls) (image_of l) x 0 (image_of l).parts) place;
}
  where
    found : (access : Access) (place byte : ℕ) → byte_in access ((job_loads (images_of ls)).fixed x) place ≡ Some byte
        → byte_in access (still (parts_from (images_of ls) (image_of l) x 0 (image_of l).parts)) place ≡ Some byte
    found access place byte e =
        sym (ap (λ (ranges : List (Range ℕ)). byte_in access ranges place) (fixed_is ls l x is.image)) ∙ e

    reads : (place byte : ℕ)
        → byte_in Read (still (parts_from (images_of ls) (image_of l) x 0 (image_of l).parts)) place
        ≡ Some byte
        → (in_room l (bias_of l.kind x.number) place ≡ true)
        ⊎ (IsInMoved l (bias_of l.kind x.number) ReadOnly place
        ⊎ IsInMoved l (bias_of l.kind x.number) (Tls true) place)
    reads place byte e = elim (where_found ls l x is Read place byte e) [
      | inl here ↦ let no = here.1.allowed in absurd (cc)
      | inr rest ↦ elim rest [
        | inl here ↦ inr (inl here.2)
        | inr rest ↦ elim rest [
          | inl here ↦ inr (inr here.2)
          | inr room ↦ inl (in_rest ls l x is Read place byte room.0 room.1 e)
        ]
      ]
    ]

    runs : (place byte : ℕ) → byte_in Run (still (parts_from (images_of ls) (image_of l) x 0 (image_of l).parts)) place
        ≡ Some byte
        → (in_room l (bias_of l.kind x.number) place ≡ true) ⊎ IsInMoved l (bias_of l.kind x.number) Executable place
    runs place byte e = elim (where_found ls l x is Run place byte e) [
      | inl here ↦ inr here.2
      | inr rest ↦ elim rest [
        | inl here ↦ let no = here.1.allowed in absurd (cc)
        | inr rest ↦ elim rest [
          | inl here ↦ let no = here.1.allowed in absurd (cc)
          | inr room ↦ inl (in_rest ls l x is Run place byte room.0 room.1 e)
        ]
      ]
    ]
