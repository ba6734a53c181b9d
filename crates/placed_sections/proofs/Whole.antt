-- The whole file rises, and ends where the last class does that has bytes.
use Rattle.std.proofs.Common.{◌≡◌, ◌+◌, ◌-◌, ◌<◌, ◌≤◌, ◌∙◌, ℕ, Bool, true, false, List, [], ◌∷◌, ◌++◌, inl, inr, refl}
use Rattle.std.proofs.Common.{sym, ap, subst, arith}
use Rattle.std.specs.Prelude.{nat_lt, if◌then◌else◌}
use Rattle.std.proofs.lemmas.Bool.{cases_lt, lt-ltb, le-ltb}
use Rattle.std.proofs.lemmas.List.{append-nil}
use Rattle.object_faults.specs.declared.class.SectionClass.{SectionClass}
use Rattle.object_faults.specs.declared.class.SectionClass.TheVariants.{Executable, ReadOnly, Tls, Writable}
use Rattle.link_faults.specs.declared.image_kind.ImageKind.{ImageKind}
use Rattle.link_faults.specs.ImageKinds.{base_of}
use Rattle.tls_layout.specs.declared.extent.Extent.{Extent}
use Rattle.tls_layout.specs.Places.{executable, read_only, tls_image, initial_data, zero_data}
use Rattle.tls_layout.specs.Sections.{Layout, layout_of}
use Rattle.tls_layout.proofs.LawsOfPlaces.{group, has_address}
use Rattle.tls_layout.proofs.Together.{Ascend, ascend, Rise, rise}
use Rattle.tls_relocs.specs.Laid.{Placed, Rising, end_of}
use Rattle.placed_sections.specs.Files.{offset_of, placed, placed_class, placed_from, filled, AreWhole, Contents}
use Rattle.placed_sections.specs.Laws.{end_or, sections_end}
use Rattle.placed_sections.proofs.Chains.{Lies, follows, end_of-append, rising-append}
use Rattle.placed_sections.proofs.Laid.{classes_placed}
use Rattle.placed_sections.proofs.Rising.{is_writable, class_lies, start, end, start_is, end_is}

-- ** a class with the mark at its end

-- a class fills its room with the mark
marked : (at end : ℕ) (xs : List Placed) → Lies false at xs end → at ≤ end
    → Lies true at (xs ++ (if nat_lt at end then record { place = end; bytes = [] } ∷ [] else [])) end
marked at end xs lies up = elim (cases_lt at end) [
  | inl some ↦
      let within = lies.within in
      rw (lt-ltb at end some) (record {
        rising = rising-append at xs (record { place = end; bytes = [] } ∷ []) lies.rising (within, tt);
        within = rw (end_of-append at xs (record { place = end; bytes = [] } ∷ [])) (omega arith);
        none = λ h. absurd (omega arith);
        ends = λ h. end_of-append at xs (record { place = end; bytes = [] } ∷ []) ∙ omega arith;
      })
  | inr none ↦ rw (le-ltb at end none, lies.none none)
      (record { rising = tt; within = omega arith; none = λ h. refl; ends = λ h. omega arith })
]

-- the same room, as offsets
same_room : (base start end : ℕ) → base ≤ start → nat_lt (start + 4096 - base) (end + 4096 - base) ≡ nat_lt start end
same_room base start end low = elim (cases_lt start end) [
  | inl some ↦ let less : start + 4096 - base < end + 4096 - base = omega arith in
      lt-ltb _ _ less ∙ sym (lt-ltb start end some)
  | inr none ↦ let more : end + 4096 - base ≤ start + 4096 - base = omega arith in
      le-ltb _ _ more ∙ sym (le-ltb start end none)
]

module _ (kind : ImageKind) (contents : Contents) (objects : List (List ℕ)) (are_whole : AreWhole contents objects)
  where
    abbrev p : Layout
    p = layout_of kind objects

    marked_class : (class : SectionClass) (x : Extent)
        → Lies false (offset_of p x.start) (placed_from (filled contents) p class 0 objects) (offset_of p x.end)
        → x.start ≤ x.end → base_of kind ≤ x.start
        → Lies true (offset_of p x.start)
        (placed_from (filled contents) p class 0 objects
        ++ (if nat_lt x.start x.end then record { place = offset_of p x.end; bytes = [] } ∷ [] else []))
        (offset_of p x.end)
    marked_class class x lies up low =
        rw (← same_room (base_of kind) x.start x.end low)
        (marked (offset_of p x.start) (offset_of p x.end) (placed_from (filled contents) p class 0 objects) lies
        (omega arith))

    written_class : (class : SectionClass) (x : Extent)
        → Lies true (offset_of p x.start) (placed_from (filled contents) p class 0 objects) (offset_of p x.end)
        → Lies true (offset_of p x.start) (placed_from (filled contents) p class 0 objects ++ []) (offset_of p x.end)
    written_class class x lies = rw (append-nil (placed_from (filled contents) p class 0 objects)) lies

    lies_at : (class : SectionClass) → (has : has_address class ≡ true)
        → Lies (is_writable class) (offset_of p (group class p.kind p.sections).start)
        (placed_from (filled contents) p class 0 objects) (offset_of p (group class p.kind p.sections).end)
    lies_at class has =
        subst (λ n. Lies (is_writable class) (offset_of p n) (placed_from (filled contents) p class 0 objects)
        (offset_of p (group class p.kind p.sections).end)) (start_is p class has)
        (subst (λ n. Lies (is_writable class) (offset_of p (start p class has))
        (placed_from (filled contents) p class 0 objects) (offset_of p n)) (end_is p class has)
        (class_lies kind contents objects are_whole class has))

    r : Rise kind p.sections
    r = rise kind p.sections

    w : Ascend kind p.sections
    w = ascend kind p.sections

    code : Lies true (offset_of p (executable kind p.sections).start)
        (placed_class (filled contents) p objects Executable) (offset_of p (executable kind p.sections).end)
    code = marked_class Executable (executable kind p.sections) (lies_at Executable refl) r.executable_up
        (omega (arith, r.base))

    constants : Lies true (offset_of p (read_only kind p.sections).start)
        (placed_class (filled contents) p objects ReadOnly) (offset_of p (read_only kind p.sections).end)
    constants = marked_class ReadOnly (read_only kind p.sections) (lies_at ReadOnly refl) r.read_only_up
        (omega (arith, w.first, w.second))

    initial_tls : Lies true (offset_of p (tls_image kind p.sections).start)
        (placed_class (filled contents) p objects (Tls true)) (offset_of p (tls_image kind p.sections).end)
    initial_tls = marked_class (Tls true) (tls_image kind p.sections) (lies_at (Tls true) refl) r.tls_up
        (omega (arith, w.first, w.second, r.read_only_up, w.third))

    initial_data_lies : Lies true (offset_of p (initial_data kind p.sections).start)
        (placed_class (filled contents) p objects (Writable true)) (offset_of p (initial_data kind p.sections).end)
    initial_data_lies = written_class (Writable true) (initial_data kind p.sections) (lies_at (Writable true) refl)

    zero_data_lies : Lies true (offset_of p (zero_data kind p.sections).start)
        (placed_class (filled contents) p objects (Writable false)) (offset_of p (zero_data kind p.sections).end)
    zero_data_lies = written_class (Writable false) (zero_data kind p.sections) (lies_at (Writable false) refl)

    -- ** the classes one behind another

    -- where the classes so far end, with one more
    record Upto (xs : List Placed) (end : ℕ) : Type 0 where
      rising : Rising 4096 xs
      ends : end_of 4096 xs ≡ offset_of p end

    upto_more : (xs ys : List Placed) (x : Extent) (so_far : ℕ) → Upto xs so_far
        → Lies true (offset_of p x.start) ys (offset_of p x.end)
        → so_far ≤ x.start → base_of kind ≤ x.start → Upto (xs ++ ys) (end_or x so_far)
    upto_more xs ys x so_far front back low above =
        let next = follows (end_of 4096 xs) (offset_of p x.start) (offset_of p x.end) ys
        (omega (arith, front.ends)) back in
        record {
          rising = rising-append 4096 xs ys front.rising next.rising;
          ends = end_of-append 4096 xs ys ∙ next.ends
              ∙ rw (same_room (base_of kind) x.start x.end above, front.ends) (lifted (nat_lt x.start x.end));
        }
      where
        lifted : (t : Bool) → (if t then offset_of p x.end else offset_of p so_far)
            ≡ offset_of p (if t then x.end else so_far)
        lifted true = refl
        lifted false = refl

    -- where they end, they end in time for the next class
    in_time : (x : Extent) (so_far next : ℕ) → so_far ≤ x.start → x.start ≤ x.end → x.end ≤ next
        → end_or x so_far ≤ next
    in_time x so_far next low up late = of_test (nat_lt x.start x.end)
      where
        of_test : (t : Bool) → (if t then x.end else so_far) ≤ next
        of_test true = late
        of_test false = omega arith

    -- both halves of the writable class are one
    halves : (x y : Extent) (so_far : ℕ) → x.start ≤ x.end → y.start ≡ x.end → y.start ≤ y.end
        → end_or y (end_or x so_far) ≡ end_or (record { start = x.start; end = y.end }) so_far
    halves x y so_far up next more = elim (cases_lt y.start y.end) [
      | inl some ↦ let all : x.start < y.end = omega arith in
          rw (lt-ltb y.start y.end some, lt-ltb x.start y.end all) refl
      | inr none ↦ let same : y.end ≡ x.end = omega arith in rw (le-ltb y.start y.end none, same) refl
    ]

    none_yet : Upto [] (base_of kind)
    none_yet = record { rising = tt; ends = omega arith }

    whole : Upto (((((([] ++ placed_class (filled contents) p objects Executable)
        ++ placed_class (filled contents) p objects ReadOnly) ++ placed_class (filled contents) p objects (Tls true))
        ++ placed_class (filled contents) p objects (Writable true))
        ++ placed_class (filled contents) p objects (Writable false)))
        (end_or (zero_data kind p.sections)
        (end_or (initial_data kind p.sections)
        (end_or (tls_image kind p.sections)
        (end_or (read_only kind p.sections) (end_or (executable kind p.sections) (base_of kind))))))
    whole =
        let x1 = executable kind p.sections in
        let x2 = read_only kind p.sections in
        let x3 = tls_image kind p.sections in
        let x4 = initial_data kind p.sections in
        let x5 = zero_data kind p.sections in
        let e1 = end_or x1 (base_of kind) in
        let e2 = end_or x2 e1 in
        let e3 = end_or x3 e2 in
        let e4 = end_or x4 e3 in
        let b1 : base_of kind ≤ x1.start = omega (arith, r.base) in
        let b2 : base_of kind ≤ x2.start = omega (arith, w.first, w.second) in
        let b3 : base_of kind ≤ x3.start = omega (arith, b2, r.read_only_up, w.third) in
        let b4 : base_of kind ≤ x4.start = omega (arith, b3, r.tls_up, w.fourth) in
        let b5 : base_of kind ≤ x5.start = omega (arith, b4, r.initial, r.zeros) in
        let t2 : e1 ≤ x2.start = in_time x1 (base_of kind) x2.start b1 r.executable_up w.second in
        let t3 : e2 ≤ x3.start = in_time x2 e1 x3.start t2 r.read_only_up w.third in
        let t4 : e3 ≤ x4.start = in_time x3 e2 x4.start t3 r.tls_up w.fourth in
        let last : x4.end ≤ x5.start = omega (arith, r.zeros) in
        let t5 : e4 ≤ x5.start = in_time x4 e3 x5.start t4 r.initial last in
        let u1 = upto_more [] (placed_class (filled contents) p objects Executable) x1
        (base_of kind) none_yet code b1 b1 in
        let u2 = upto_more _ (placed_class (filled contents) p objects ReadOnly) x2 e1 u1 constants t2 b2 in
        let u3 = upto_more _ (placed_class (filled contents) p objects (Tls true)) x3 e2 u2 initial_tls t3 b3 in
        let u4 = upto_more _ (placed_class (filled contents) p objects
        (Writable true)) x4 e3 u3 initial_data_lies t4 b4 in
        upto_more _ (placed_class (filled contents) p objects (Writable false)) x5 e4 u4 zero_data_lies t5 b5

    end_are : end_or (zero_data kind p.sections)
        (end_or (initial_data kind p.sections)
        (end_or (tls_image kind p.sections)
        (end_or (read_only kind p.sections) (end_or (executable kind p.sections) (base_of kind)))))
        ≡ sections_end p
    unfolding sections_end
    end_are = halves (initial_data kind p.sections) (zero_data kind p.sections)
        (end_or (tls_image kind p.sections)
        (end_or (read_only kind p.sections)
        (end_or (executable kind p.sections) (base_of kind)))) r.initial r.zeros r.zero

    -- all sections rise from behind the first page
    pub all_rise : Rising 4096 (placed (filled contents) p objects)
    all_rise = subst (λ xs. Rising 4096 xs) (classes_placed (filled contents) p objects) whole.rising

    pub all_end : end_of 4096 (placed (filled contents) p objects) ≡ offset_of p (sections_end p)
    all_end = ap (end_of 4096) (sym (classes_placed (filled contents) p objects)) ∙ whole.ends
        ∙ ap (offset_of p) end_are
