-- The offsets in the TLS segment are the only ones of their kind.
use Rattle.std.proofs.Common.{◌≡◌, ◌⊎◌, ◌∙◌, ◌+◌, ◌*◌, ◌<◌, ◌≤◌, ℕ, zero, suc, Bool, true, false, max, List, [], ◌∷◌}
use Rattle.std.proofs.Common.{Option, Some, None, refl, sym, subst, inl, inr, arith}
use Rattle.std.specs.Prelude.{◌==◌, fold, if◌then◌else◌}
use Rattle.std.proofs.lemmas.Bool.{cases_lt, ne_eqb}
use Rattle.elf_object.specs.Lent.{is_tls_class}
use Rattle.object_faults.specs.declared.class.SectionClass.{SectionClass}
use Rattle.object_faults.specs.declared.class.SectionClass.TheVariants.{Executable, ReadOnly, Tls, Writable}
use Rattle.tls_layout.specs.declared.sections.Section.{Section}
use Rattle.tls_layout.specs.Places.{end_of, greatest_alignment, initial_tls, next_alignment, offset_at, place_in}
use Rattle.tls_layout.specs.Places.{tls_alignment, tls_size, zero_tls}
use Rattle.tls_layout.specs.Sections.{section_at}
use Rattle.tls_layout.proofs.Ends.{end_of-rises}
use Rattle.layout_laws.specs.Layout.{AreAligned, ArePlaces, Asks, SegmentsAreLeast, IsLeast, IsPastClasses, LiesAt}
use Rattle.layout_laws.specs.Layout.{OffsetsAreOnly, StandsBefore, class_number, has_offset}
use Rattle.layout_laws.proofs.Found.{Has, all_below, ends, lies_there}
use Rattle.layout_laws.proofs.Only.{only, same_places}

module _ (sections : List Section) where
  abbrev f : ℕ → Option ℕ
  f = offset_at sections

  from : Bool → ℕ
  from true = (initial_tls sections).start
  from false = (zero_tls sections).start

  offset_is : (initial : Bool) (k : ℕ) → (section_at sections k).class ≡ Some (Tls initial)
      → f k ≡ Some (place_in (Tls initial) (from initial) sections k)
  unfolding offset_at from
  offset_is true k here = rw here refl
  offset_is false k here = rw here refl

  no_offset : (class : SectionClass) → has_offset class ≡ false → (k : ℕ) → (section_at sections k).class ≡ Some class
      → f k ≡ None
  unfolding offset_at
  no_offset Executable has k here = rw here refl
  no_offset ReadOnly has k here = rw here refl
  no_offset (Tls initial) has k here = cc
  no_offset (Writable initial) has k here = rw here refl

  dropped_is : (k : ℕ) → (section_at sections k).class ≡ None → f k ≡ None
  unfolding offset_at
  dropped_is k here = rw here refl

  has_of : (initial : Bool) → Has has_offset 0 sections f (Tls initial) (from initial)
  has_of initial = record { at = offset_is initial }

  none_some : {a : ℕ} {o : Option ℕ} → o ≡ None → o ≡ Some a → ⊥
  none_some x y = let same = sym x ∙ y in cc

  from_zero : from true ≡ 0
  unfolding initial_tls from
  from_zero = refl

  zeros_begin : from false ≡ end_of (Tls true) (from true) sections
  unfolding zero_tls initial_tls from
  zeros_begin = refl

  -- no class before it has offsets, so the segment begins at 0
  begins : (initial : Bool) → IsLeast 4096 (IsPastClasses has_offset 0 sections f (Tls initial)) (from true)
  begins initial = record {
    times = 0;
    multiple = from_zero;
    holds = (omega arith, past);
    least = λ fewer h. subst (λ (n : ℕ). n ≤ fewer * 4096) (sym from_zero) (omega arith);
  }
    where
      past : (i other : ℕ) (c : SectionClass) → (section_at sections i).class ≡ Some c → f i ≡ Some other
          → class_number c < class_number (Tls initial) → other + (section_at sections i).size ≤ from true
      past i other Executable at there less = absurd (none_some (no_offset Executable refl i at) there)
      past i other ReadOnly at there less = absurd (none_some (no_offset ReadOnly refl i at) there)
      past i other (Tls x) at there less = absurd (omega (arith, less))
      past i other (Writable x) at there less = absurd (omega (arith, less))

  initial_before : (k i other : ℕ) (c : SectionClass) → (section_at sections i).class ≡ Some c → f i ≡ Some other
      → StandsBefore c i (Tls true) k
      → ((c ≡ Tls true) × (i < k)) ⊎ (other + (section_at sections i).size ≤ from true)
  initial_before k i other (Tls true) at there (number, inl zeros) = cc
  initial_before k i other (Tls true) at there (number, inr less) = inl (refl, less.1)
  initial_before k i other (Tls false) at there (number, inl zeros) = cc
  initial_before k i other (Tls false) at there (number, inr less) = cc
  initial_before k i other Executable at there (number, which) = absurd (omega (arith, number))
  initial_before k i other ReadOnly at there (number, which) = absurd (omega (arith, number))
  initial_before k i other (Writable x) at there (number, which) = absurd (omega (arith, number))

  initial_end : (i other : ℕ) → (section_at sections i).class ≡ Some (Tls true) → f i ≡ Some other
      → other + (section_at sections i).size ≤ from false
  initial_end i other at there =
      subst (λ (n : ℕ). other + (section_at sections i).size ≤ n) (sym zeros_begin)
      (ends has_offset 0 sections f (Tls true) (from true) (has_of true) i other at there)

  zeros_before : (k i other : ℕ) (c : SectionClass) → (section_at sections i).class ≡ Some c → f i ≡ Some other
      → StandsBefore c i (Tls false) k
      → ((c ≡ Tls false) × (i < k)) ⊎ (other + (section_at sections i).size ≤ from false)
  zeros_before k i other (Tls true) at there (number, which) = inr (initial_end i other at there)
  zeros_before k i other (Tls false) at there (number, inl zeros) = cc
  zeros_before k i other (Tls false) at there (number, inr less) = inl (refl, less.1)
  zeros_before k i other Executable at there (number, which) = absurd (omega (arith, number))
  zeros_before k i other ReadOnly at there (number, which) = absurd (omega (arith, number))
  zeros_before k i other (Writable x) at there (number, which) = absurd (omega (arith, number))

  module _ (aligned : AreAligned sections) where
    lies : (initial : Bool) (k : ℕ) → (section_at sections k).class ≡ Some (Tls initial)
        → LiesAt has_offset 0 sections f (Tls initial) k (place_in (Tls initial) (from initial) sections k)
    lies true k here = record {
      start = from true;
      begins = begins true;
      lies = lies_there has_offset 0 sections f (Tls true) (from true) (from true) k here (aligned k) (has_of true)
          (omega arith)
          (initial_before k) (λ m h. h.0);
    }
    lies false k here = record {
      start = from true;
      begins = begins false;
      lies = lies_there has_offset 0 sections f (Tls false) (from true) (from false) k here (aligned k) (has_of false)
          (subst (λ (n : ℕ). from true ≤ n) (sym zeros_begin) (end_of-rises (Tls true) (from true) sections))
          (zeros_before k)
          (λ m h. subst (λ (n : ℕ). n ≤ m) (sym zeros_begin) (all_below (Tls true) (from true) sections m h.0
          (λ j here. h.1 j _ (Tls true) here (offset_is true j here) (refl, inl (refl, refl)))));
    }

    -- ** all sections

    placed : (k : ℕ) (class : SectionClass) → (section_at sections k).class ≡ Some class → has_offset class ≡ true
        → (at : ℕ) × ((f k ≡ Some at) × LiesAt has_offset 0 sections f class k at)
    placed k Executable here has = cc
    placed k ReadOnly here has = cc
    placed k (Tls initial) here has =
        (place_in (Tls initial) (from initial) sections k, (offset_is initial k here, lies initial k here))
    placed k (Writable initial) here has = cc

    pub are_places : ArePlaces has_offset 0 sections f
    are_places = record {
      placed = placed;
      others = λ k class here none. no_offset class none k here;
      dropped = dropped_is;
    }

-- ** the segment

module _ (sections : List Section) where
  size_is : tls_size sections ≡ end_of (Tls false) (from sections false) sections
  unfolding zero_tls from
  size_is = refl

  in_segment : (k other : ℕ) (c : SectionClass) → (section_at sections k).class ≡ Some c
      → offset_at sections k ≡ Some other
      → other + (section_at sections k).size ≤ tls_size sections
  in_segment k other (Tls true) at there =
      let low = initial_end sections k other at there in
      omega (arith, low, end_of-rises (Tls false) (from sections false) sections, size_is)
  in_segment k other (Tls false) at there =
      let low = ends has_offset 0 sections (offset_at sections) (Tls false) (from sections false)
      (has_of sections false) k other at there in
      omega (arith, low, size_is)
  in_segment k other Executable at there = absurd (none_some sections (no_offset sections Executable refl k at) there)
  in_segment k other ReadOnly at there = absurd (none_some sections (no_offset sections ReadOnly refl k at) there)
  in_segment k other (Writable x) at there =
      absurd (none_some sections (no_offset sections (Writable x) refl k at) there)

  holds_each : (k other : ℕ) → offset_at sections k ≡ Some other
      → other + (section_at sections k).size ≤ tls_size sections
  holds_each k other there = of (section_at sections k).class refl
    where
      of : (c : Option SectionClass) → (section_at sections k).class ≡ c
          → other + (section_at sections k).size ≤ tls_size sections
      of None at = absurd (none_some sections (dropped_is sections k at) there)
      of (Some c) at = in_segment k other c at there

  size_least : (fewer : ℕ)
      → ((k other : ℕ) → offset_at sections k ≡ Some other → other + (section_at sections k).size ≤ fewer)
      → tls_size sections ≤ fewer
  size_least fewer each =
      let start : from sections true ≤ fewer = subst (λ (n : ℕ). n ≤ fewer) (sym (from_zero sections)) (omega arith) in
      let zeros : from sections false ≤ fewer = subst (λ (n : ℕ). n ≤ fewer) (sym (zeros_begin sections))
      (all_below (Tls true) (from sections true) sections fewer start
      (λ j here. each j _ (offset_is sections true j here))) in
      subst (λ (n : ℕ). n ≤ fewer) (sym size_is)
      (all_below (Tls false) (from sections false) sections fewer zeros
      (λ j here. each j _ (offset_is sections false j here)))

-- the greatest alignment along a list
grows : (greatest : ℕ) (sections : List Section) → greatest ≤ fold next_alignment greatest sections
grows greatest [] = omega arith
grows greatest (x ∷ xs) = let later = grows (next_alignment greatest x) xs in of (is_tls_class x.class) later
  where
    of : (t : Bool) → (if t then max greatest x.alignment else greatest) ≤ fold next_alignment
        (next_alignment greatest x) xs
        → greatest ≤ fold next_alignment (next_alignment greatest x) xs
    of true later = omega (arith, later)
    of false later = later

bounds : (greatest : ℕ) (sections : List Section) (k asked : ℕ) → Asks sections k asked
    → asked ≤ fold next_alignment greatest sections
bounds greatest [] k asked asks = absurd (let none = asks.1.0 in cc)
bounds greatest (x ∷ xs) zero asked asks =
    let is : next_alignment greatest x ≡ max greatest x.alignment = rw asks.1.0 refl in
    omega (arith, asks.1.1, is, grows (next_alignment greatest x) xs)
bounds greatest (x ∷ xs) (suc k) asked asks = bounds (next_alignment greatest x) xs k asked asks

-- it is the first one, or one of the list's
abbrev Found : ℕ → List Section → ℕ → Type 0
Found greatest sections result = (result ≡ greatest) ⊎ ((k : ℕ) × Asks sections k result)

found : (greatest : ℕ) (sections : List Section) → Found greatest sections (fold next_alignment greatest sections)
found greatest [] = inl refl
found greatest (x ∷ xs) = of (found (next_alignment greatest x) xs)
  where
    this : (c : Option SectionClass) → x.class ≡ c → (result : ℕ)
        → result ≡ (if is_tls_class c then max greatest x.alignment else greatest) → Found greatest (x ∷ xs) result
    this None is result same = inl same
    this (Some Executable) is result same = inl same
    this (Some ReadOnly) is result same = inl same
    this (Some (Writable initial)) is result same = inl same
    this (Some (Tls initial)) is result same = elim (cases_lt greatest x.alignment) [
      | inl less ↦ inr (0, (initial, (is, omega (arith, same, less))))
      | inr more ↦ inl (omega (arith, same, more))
    ]

    of : Found (next_alignment greatest x) xs (fold next_alignment (next_alignment greatest x) xs)
        → Found greatest (x ∷ xs) (fold next_alignment (next_alignment greatest x) xs)
    of (inl same) = this x.class refl _ same
    of (inr later) = inr (suc later.0, later.1)

alignment_empty : (sections : List Section) → tls_size sections ≡ 0 → tls_alignment sections ≡ 1
unfolding tls_alignment
alignment_empty sections none = rw none refl

alignment_some : (sections : List Section) → 0 < tls_size sections
    → tls_alignment sections ≡ fold next_alignment 1 sections
unfolding tls_alignment greatest_alignment
alignment_some sections some = let other : (tls_size sections == 0) ≡ false =
    ne_eqb (tls_size sections) 0 (λ e. omega (arith, some, e)) in rw other refl

pub segments_least : SegmentsAreLeast
segments_least sections = record {
  holds = holds_each sections;
  least = size_least sections;
  empty = alignment_empty sections;
  greatest = λ some k asked asks. rw (alignment_some sections some) (bounds 1 sections k asked asks);
  asked = λ some. rw (alignment_some sections some) (found 1 sections);
}

pub offsets_only : OffsetsAreOnly
offsets_only sections aligned place = (
  λ are. only has_offset 0 sections place (offset_at sections) are (are_places sections aligned),
  λ same. same_places has_offset 0 sections place (offset_at sections) same (are_places sections aligned),
)
