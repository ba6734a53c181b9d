-- Where thread-local sections lie in the TLS segment, and its front in the image.
use Rattle.std.proofs.Common.{◌≡◌, ℕ, ◌+◌, ◌-◌, ◌*◌, ◌<◌, ◌≤◌, ◌^◌, ◌==◌, Bool, true, false, max, List, [], ◌∷◌, take}
use Rattle.std.proofs.Common.{drop, All, Option, Some, None, IsSome, refl, sym, ap, subst, ◌∙◌, arith, inl}
use Rattle.std.proofs.Common.{inr, ◌⊎◌}
use Rattle.std.specs.Prelude.{fold, option_and_then, if◌then◌else◌}
use Rattle.std.proofs.Math.Nat.{mul_assoc}
use Rattle.std.proofs.lemmas.Bool.{cases_lt}
use Rattle.std.proofs.lemmas.Bool.Decides.{nat_tests}
use Rattle.std.proofs.lemmas.Nat.{pow_below, pow-add}
use Rattle.std.proofs.lemmas.List.{take-append-drop}
use Rattle.std.proofs.lemmas.List.Sums.{fold_more, fold-append}
use Rattle.std.proofs.lemmas.List.Elements.{All-head, All-tail, All-take}
use Rattle.std.proofs.lemmas.Option.{same_Some, none-some}
use Rattle.object_faults.specs.declared.class.SectionClass.{SectionClass}
use Rattle.object_faults.specs.declared.class.SectionClass.TheVariants.{Executable, ReadOnly, Tls, Writable}
use Rattle.link_faults.specs.declared.image_kind.ImageKind.{ImageKind}
use Rattle.tls_layout.specs.declared.sections.Section.{Section}
use Rattle.tls_layout.specs.declared.extent.Extent.{Extent}
use Rattle.tls_layout.specs.Rounding.{round_up, IsMultiple}
use Rattle.elf_records.specs.Alignments.{IsAlignment}
use Rattle.tls_layout.specs.Sections.{Layout, dropped, position, section_at, is_in, IsOrdinary}
use Rattle.elf_object.specs.Lent.{is_tls_class}
use Rattle.tls_layout.specs.Places.{next_end, end_of, place_in, read_only, tls_image, initial_tls, zero_tls, tls_size}
use Rattle.tls_layout.specs.Places.{tls_alignment, greatest_alignment, next_alignment, address_at, offset_by}
use Rattle.tls_layout.specs.Places.{offset_at, section_found, section_named, address_of, tls_offset_of, IsLawful}
use Rattle.tls_layout.specs.Laws.{LiesInTls, LieInTheSegment, HaveOffsets, OffsetsAreApart, AlignmentSuits}
use Rattle.tls_layout.specs.Laws.{IsFrontOfSegment}
use Rattle.tls_layout.proofs.Rounds.{round_up-add, power_divides}
use Rattle.tls_layout.proofs.Ends.{end_of-rises}
use Rattle.tls_layout.proofs.Together.{rise, power_more}
use Rattle.tls_layout.proofs.LawsOfPlaces.{same_place, found_at, within, one_before, from_start, to_end, aligned_at}
use Rattle.tls_layout.proofs.LawsOfPlaces.{PlacedIn, placed, page_multiple, group, group_end, has_address}

-- the part of the segment that a class fills
abbrev pub part : Bool → List Section → Extent
part true sections = initial_tls sections
part false sections = zero_tls sections

part_end : (sections : List Section) (initial : Bool)
    → (part initial sections).end ≡ end_of (Tls initial) (part initial sections).start sections
unfolding initial_tls zero_tls
part_end sections true = refl
part_end sections false = refl

parts_follow : (sections : List Section) → (initial_tls sections).end ≡ (zero_tls sections).start
unfolding zero_tls
parts_follow sections = refl

zero_rises : (sections : List Section) → (zero_tls sections).start ≤ (zero_tls sections).end
unfolding zero_tls
zero_rises sections = end_of-rises (Tls false) (initial_tls sections).end sections

part_inside : (sections : List Section) (initial : Bool) → (part initial sections).end ≤ tls_size sections
part_inside sections true = omega (arith, parts_follow sections, zero_rises sections)
part_inside sections false = omega arith

-- a section that has an offset lies in its part
pub record OffsetIn (sections : List Section) (k offset : ℕ) : Type 0 where
  pub initial : Bool
  pub is : (section_at sections k).class ≡ Some (Tls initial)
  pub place : offset ≡ place_in (Tls initial) (part initial sections).start sections k

offset_in : (sections : List Section) (k offset : ℕ) → offset_at sections k ≡ Some offset → OffsetIn sections k offset
unfolding offset_at
offset_in sections k offset e = by_class (section_at sections k).class refl e
  where
    by_class : (class : Option SectionClass) → (section_at sections k).class ≡ class
        → offset_by class sections k ≡ Some offset → OffsetIn sections k offset
    by_class None is e = absurd (none-some offset e)
    by_class (Some Executable) is e = absurd (none-some offset e)
    by_class (Some ReadOnly) is e = absurd (none-some offset e)
    by_class (Some (Tls true)) is e = record { initial = true; is = is; place = sym (same_Some _ _ e) }
    by_class (Some (Tls false)) is e = record { initial = false; is = is; place = sym (same_Some _ _ e) }
    by_class (Some (Writable initial)) is e = absurd (none-some offset e)

pub lie_in_segment : (p : Layout) → IsLawful p → LieInTheSegment p
unfolding tls_offset_of
lie_in_segment p lawful o s offset e =
    let x = found_at p o s (offset_at p.sections) offset e in
    lies x.place (offset_in p.sections x.place offset x.gives) x.named
  where
    lies : (k : ℕ) → (is : OffsetIn p.sections k offset) → section_named p o s ≡ section_at p.sections k
        → LiesInTls p (section_named p o s) offset
    lies k is named =
        let high = to_end (Tls is.initial) (part is.initial p.sections).start p.sections k is.is in
        let end = part_end p.sections is.initial in
        let inside = part_inside p.sections is.initial in
        rw (named, is.place) (record {
          aligned = aligned_at (Tls is.initial) (part is.initial p.sections).start p.sections k lawful.ordinary is.is;
          inside = omega arith;
        })

pub have_offsets : (p : Layout) → HaveOffsets p
unfolding tls_offset_of section_named offset_at
have_offsets p o s initial c = by_position (position p.counts o s) c
  where
    by_position : (k : Option ℕ) → (section_found k p.sections).class ≡ Some (Tls initial)
        → IsSome (option_and_then (λ k. offset_by (section_at p.sections k).class p.sections k) k)
    by_position None c = absurd (cc)
    by_position (Some k) c = rw c (by_kind initial k)
      where
        by_kind : (initial : Bool) (k : ℕ) → IsSome (offset_by (Some (Tls initial)) p.sections k)
        by_kind true k = refl
        by_kind false k = refl

-- ---- apart

offset_before : (sections : List Section) (j k a b : ℕ) → j < k → OffsetIn sections j a → OffsetIn sections k b
    → (a + (section_at sections j).size ≤ b) ⊎ (b + (section_at sections k).size ≤ a)
offset_before sections j k a b less first second =
    by_parts first.initial second.initial first.is second.is first.place second.place
  where
    by_parts : (i i' : Bool) → (section_at sections j).class ≡ Some (Tls i)
        → (section_at sections k).class ≡ Some (Tls i')
        → a ≡ place_in (Tls i) (part i sections).start sections j
        → b ≡ place_in (Tls i') (part i' sections).start sections k
        → (a + (section_at sections j).size ≤ b) ⊎ (b + (section_at sections k).size ≤ a)
    by_parts true true is is' at at' =
        inl (rw (at, at') (one_before (Tls true) (part true sections).start sections j k less is))
    by_parts false false is is' at at' =
        inl (rw (at, at') (one_before (Tls false) (part false sections).start sections j k less is))
    by_parts true false is is' at at' =
        inl (omega (
          arith,
          to_end (Tls true) (part true sections).start sections j is,
          part_end sections true,
          parts_follow sections,
          from_start (Tls false) (part false sections).start sections k,
          at,
          at',
        ))
    by_parts false true is is' at at' =
        inr (omega (
          arith,
          to_end (Tls true) (part true sections).start sections k is',
          part_end sections true,
          parts_follow sections,
          from_start (Tls false) (part false sections).start sections j,
          at,
          at',
        ))

pub offsets_apart : (p : Layout) → OffsetsAreApart p
unfolding tls_offset_of
offsets_apart p o s a o' s' a' e e' =
    let x = found_at p o s (offset_at p.sections) a e in
    let y = found_at p o' s' (offset_at p.sections) a' e' in
    let first = offset_in p.sections x.place a x.gives in
    let second = offset_in p.sections y.place a' y.gives in
    elim (cases_lt x.place y.place) [
      | inl less ↦ inr (rw (x.named, y.named) (offset_before p.sections x.place y.place a a' less first second))
      | inr more ↦ elim (cases_lt y.place x.place) [
        | inl less ↦ inr (rw (x.named, y.named)
            (other (offset_before p.sections y.place x.place a' a less second first)))
        | inr same ↦
            let e : y.place ≡ x.place = omega arith in
            inl (same_place p.counts o s o' s' x.place x.position_is (y.position_is ∙ ap Some e))
      ]
    ]
  where
    other : {P Q : Type 0} → P ⊎ Q → Q ⊎ P
    other (inl h) = inr h
    other (inr h) = inl h

-- ---- the front of the segment

-- from a page on, the sections of a class lie as from 0 on
step_moves : (class : SectionClass) (q end : ℕ) (section : Section) → IsOrdinary section
    → next_end class (4096 * q + end) section ≡ 4096 * q + next_end class end section
step_moves class q end section ordinary =
    let divides = power_divides section.alignment ordinary.1 in
    let moved = page_moves section.alignment divides.0 divides.1 in
    of_test (is_in class section) moved
  where
    page_moves : (a m : ℕ) → 4096 ≡ a * m → round_up (4096 * q + end) a ≡ 4096 * q + round_up end a
    page_moves a m e =
        let regrouped : 4096 * q ≡ a * (m * q) = ap (λ n. n * q) e ∙ mul_assoc a m q in
        rw regrouped (round_up-add (m * q) end a)

    of_test : (t : Bool) → round_up (4096 * q + end) section.alignment ≡ 4096 * q + round_up end section.alignment
        → (if t then round_up (4096 * q + end) section.alignment + section.size else 4096 * q + end)
        ≡ 4096 * q + (if t then round_up end section.alignment + section.size else end)
    of_test true moved = omega arith
    of_test false moved = refl

folds_move : (class : SectionClass) (q from : ℕ) (sections : List Section) → All IsOrdinary sections
    → fold (next_end class) (4096 * q + from) sections ≡ 4096 * q + fold (next_end class) from sections
folds_move class q from [] ordinary = refl
folds_move class q from (x ∷ xs) ordinary =
    let step = step_moves class q from x (All-head IsOrdinary x xs ordinary) in
    ap (λ n. fold (next_end class) n xs) step
    ∙ folds_move class q (next_end class from x) xs (All-tail IsOrdinary x xs ordinary)

end_of-moves : (class : SectionClass) (q from : ℕ) (sections : List Section) → All IsOrdinary sections
    → end_of class (4096 * q + from) sections ≡ 4096 * q + end_of class from sections
unfolding end_of
end_of-moves class q from sections ordinary = folds_move class q from sections ordinary

place_moves : (class : SectionClass) (q : ℕ) (sections : List Section) (k : ℕ) → All IsOrdinary sections
    → (section_at sections k).class ≡ Some class
    → place_in class (4096 * q) sections k ≡ 4096 * q + place_in class 0 sections k
unfolding place_in
place_moves class q sections k ordinary is =
    let zero : 4096 * q ≡ 4096 * q + 0 = omega arith in
    let front = end_of-moves class q 0 (take k sections) (All-take IsOrdinary k sections ordinary) in
    let alignment = ordinary k dropped (within sections k class is) in
    let divides = power_divides (section_at sections k).alignment alignment.1 in
    let end = end_of class 0 (take k sections) in
    let regrouped : 4096 * q ≡ (section_at sections k).alignment * (divides.0 * q) = ap (λ n. n * q) divides.1
    ∙ mul_assoc (section_at sections k).alignment divides.0 q in
    let from_page : end_of class (4096 * q) (take k sections) ≡ 4096 * q + end =
    ap (λ n. end_of class n (take k sections)) zero ∙ front in
    ap (λ n. round_up n (section_at sections k).alignment) (from_page ∙ ap (λ n. n + end) regrouped)
    ∙ (round_up-add (divides.0 * q) end (section_at sections k).alignment
    ∙ ap (λ n. n + round_up end (section_at sections k).alignment) (sym regrouped))

initial_from : (sections : List Section)
    → ((initial_tls sections).start ≡ 0) × ((initial_tls sections).end ≡ end_of (Tls true) 0 sections)
unfolding initial_tls
initial_from sections = (refl, refl)

-- the initial image begins on a page
image_page : (kind : ImageKind) (sections : List Section) → IsMultiple (tls_image kind sections).start 4096
image_page kind sections = rw (rise kind sections).image (page_multiple (read_only kind sections).end)

pub front_len : (kind : ImageKind) (sections : List Section) → All IsOrdinary sections
    → (tls_image kind sections).end ≡ (tls_image kind sections).start + (initial_tls sections).end
front_len kind sections ordinary =
    let page = image_page kind sections in
    let start : (tls_image kind sections).start ≡ 4096 * page.0 + 0 = page.1 ∙ (omega arith) in
    let moved = end_of-moves (Tls true) page.0 0 sections ordinary in
    let end = group_end kind sections (Tls true) refl in
    let from_page : end_of (Tls true) (tls_image kind sections).start sections
    ≡ 4096 * page.0 + end_of (Tls true) 0 sections = ap (λ n. end_of (Tls true) n sections) start ∙ moved in
    omega (arith, end, from_page, start, (initial_from sections).1)

front_place : (kind : ImageKind) (sections : List Section) (k address offset : ℕ) → All IsOrdinary sections
    → PlacedIn kind sections k address → OffsetIn sections k offset
    → address ≡ (tls_image kind sections).start + offset
front_place kind sections k address offset ordinary at inside = by_part inside.initial inside.is inside.place
  where
    by_part : (initial : Bool) → (section_at sections k).class ≡ Some (Tls initial)
        → offset ≡ place_in (Tls initial) (part initial sections).start sections k
        → address ≡ (tls_image kind sections).start + offset
    by_part true is place =
        let same : at.class ≡ Tls true = same_Some _ _ (sym at.is ∙ is) in
        let P : SectionClass → Type 0 = λ c. address ≡ place_in c (group c kind sections).start sections k in
        let here : address ≡ place_in (Tls true) (tls_image kind sections).start sections k = subst P same at.place in
        let page = image_page kind sections in
        let moved = place_moves (Tls true) page.0 sections k ordinary is in
        let from_page : place_in (Tls true) (tls_image kind sections).start sections k
        ≡ 4096 * page.0 + place_in (Tls true) 0 sections k =
        ap (λ n. place_in (Tls true) n sections k) page.1 ∙ moved in
        let first : offset ≡ place_in (Tls true) 0 sections k = place
        ∙ ap (λ n. place_in (Tls true) n sections k) (initial_from sections).0 in
        omega (arith, here, from_page, first, page.1)
    by_part false is place =
        let same : at.class ≡ Tls false = same_Some _ _ (sym at.is ∙ is) in
        let none : false ≡ true = ap has_address (sym same) ∙ at.has in
        absurd (cc)

pub front_of_segment : (p : Layout) → IsLawful p → IsFrontOfSegment p
unfolding address_of tls_offset_of
front_of_segment p lawful = record {
  places = λ o s address offset a e.
      (let x = found_at p o s (address_at p.kind p.sections) address a in
      let y = found_at p o s (offset_at p.sections) offset e in
      let same : y.place ≡ x.place = same_Some _ _ (sym y.position_is ∙ x.position_is) in
      let P : ℕ → Type 0 = λ k. offset_at p.sections k ≡ Some offset in
      front_place p.kind p.sections x.place address offset lawful.ordinary
      (placed p.kind p.sections x.place address x.gives) (offset_in p.sections x.place offset (subst P same y.gives)));
  len = front_len p.kind p.sections lawful.ordinary;
  inside = part_inside p.sections true;
}

-- ---- the alignment of the segment

folds_greater : (greatest : ℕ) (sections : List Section) → greatest ≤ fold next_alignment greatest sections
folds_greater greatest [] = omega arith
folds_greater greatest (x ∷ xs) =
    let once = one (is_tls_class x.class) in
    let later = folds_greater (next_alignment greatest x) xs in
    omega (arith, once, later)
  where
    one : (t : Bool) → greatest ≤ (if t then max greatest x.alignment else greatest)
    one true = omega arith
    one false = omega arith

-- no thread-local section asks for more than the greatest alignment
at_most_greatest : (sections : List Section) (k : ℕ) (initial : Bool)
    → (section_at sections k).class ≡ Some (Tls initial)
    → (section_at sections k).alignment ≤ greatest_alignment sections
unfolding greatest_alignment
at_most_greatest sections k initial is =
    let l = within sections k (Tls initial) is in
    let here = fold_more next_alignment 1 sections k dropped l in
    let split : fold next_alignment 1 sections
    ≡ fold next_alignment (fold next_alignment 1 (take (k + 1) sections)) (drop (k + 1) sections) =
    ap (fold next_alignment 1) (sym (take-append-drop (k + 1) sections))
    ∙ fold-append next_alignment 1 (take (k + 1) sections) (drop (k + 1) sections) in
    let rest = folds_greater (fold next_alignment 1 (take (k + 1) sections)) (drop (k + 1) sections) in
    let one : (section_at sections k).alignment ≤ next_alignment (fold next_alignment 1 (take k sections))
    (section_at sections k) = rw is (omega arith) in
    omega (arith, here, split, rest, one)

-- of two powers of two the greater is a multiple of the other
power_multiple : (a b : ℕ) → IsAlignment a → IsAlignment b → a ≤ b → IsMultiple b a
power_multiple a b p q le = elim (cases_lt q.0 p.0) [
  | inl less ↦ absurd (omega (arith, pow_below q.0 p.0 less, p.2, q.2))
  | inr more ↦
      let whole : p.0 + (q.0 - p.0) ≡ q.0 = omega arith in
      (2 ^ (q.0 - p.0), rw (p.2, q.2) (ap (λ n. 2 ^ n) (sym whole) ∙ pow-add 2 p.0 (q.0 - p.0)))
]

greatest_is_power : (sections : List Section) → All IsOrdinary sections → IsAlignment (greatest_alignment sections)
unfolding greatest_alignment
greatest_is_power sections ordinary = folds_power 1 sections (0, omega arith, refl) ordinary
  where
    folds_power : (greatest : ℕ) (xs : List Section) → IsAlignment greatest → All IsOrdinary xs
        → IsAlignment (fold next_alignment greatest xs)
    folds_power greatest [] power ordinary = power
    folds_power greatest (x ∷ xs) power ordinary =
        folds_power (next_alignment greatest x) xs (power_more greatest x power (All-head IsOrdinary x xs ordinary))
        (All-tail IsOrdinary x xs ordinary)

not_zero : (n : ℕ) → 0 < n → (n == 0) ≡ false
not_zero n h = grind (arith, nat_tests)

pub alignment_suits : (p : Layout) → IsLawful p → AlignmentSuits p
unfolding section_named tls_alignment
alignment_suits p lawful o s initial some c = by_position (position p.counts o s) c
  where
    by_position : (k : Option ℕ) → (section_found k p.sections).class ≡ Some (Tls initial)
        → IsMultiple (tls_alignment p.sections) (section_found k p.sections).alignment
    by_position None c = absurd (cc)
    by_position (Some k) c =
        let l = within p.sections k (Tls initial) c in
        let greatest : tls_alignment p.sections ≡ greatest_alignment p.sections =
        rw (not_zero (tls_size p.sections) some) refl in
        rw greatest (power_multiple (section_at p.sections k).alignment (greatest_alignment p.sections)
        (lawful.ordinary k dropped l).1
        (greatest_is_power p.sections lawful.ordinary) (at_most_greatest p.sections k initial c))
