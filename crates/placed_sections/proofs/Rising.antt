-- The sections of a file rise, and end where their classes do.
use Rattle.std.proofs.Common.{◌≡◌, ◌+◌, ◌<◌, ◌≤◌, ◌∙◌, ℕ, zero, suc, Bool, true, false, List, [], ◌∷◌, length, take}
use Rattle.std.proofs.Common.{drop, slice_index_or, Option, Some, IsSome, inl, inr, refl, sym, ap, subst, arith}
use Rattle.std.specs.Prelude.{sum, unwrap_or, slice_index}
use Rattle.std.specs.List.{flat_map, range_with_len}
use Rattle.std.proofs.Math.Seq.{drop-cons}
use Rattle.std.proofs.lemmas.Bool.{cases_lt, lt-ltb, le-ltb}
use Rattle.std.proofs.Math.ListN.{drop_of_length-le}
use Rattle.std.proofs.lemmas.List.{get_or-map, take_all, length-drop, length-map}
use Rattle.std.proofs.lemmas.List.Sums.{sum_by_more}
use Rattle.object_faults.specs.declared.class.SectionClass.{SectionClass}
use Rattle.object_faults.specs.declared.class.SectionClass.TheVariants.{Executable, ReadOnly, Tls, Writable}
use Rattle.elf_object.specs.Lent.{section_class, section_size}
use Rattle.elf_object.specs.Object.{section_count}
use Rattle.link_faults.specs.declared.image_kind.ImageKind.{ImageKind}
use Rattle.link_faults.specs.ImageKinds.{base_of}
use Rattle.tls_layout.specs.declared.sections.Section.{Section}
use Rattle.tls_layout.specs.Laws.{IsSectionOf}
use Rattle.tls_layout.specs.Places.{end_of as class_end, place_in, address_of, address_at, address_by, section_named}
use Rattle.tls_layout.specs.Sections.{Layout, layout_of, section_at, section_counts, all_sections, position, is_class}
use Rattle.tls_layout.specs.Sections.{is_in, dropped}
use Rattle.tls_layout.proofs.Ends.{end_of-more, end_of-all, end_of-none, end_of-rises}
use Rattle.tls_layout.proofs.LawsOfPlaces.{ends_at, group, group_end, has_address}
use Rattle.tls_layout.proofs.LawsOfSections.{finds_sections}
use Rattle.tls_layout.proofs.Listed.{length-all_sections}
use Rattle.tls_layout.proofs.Rounds.{round_up-above}
use Rattle.tls_layout.proofs.Together.{Ascend, ascend, Rise, rise}
use Rattle.placed_sections.specs.Files.{offset_of, placed_section, placed_object, placed_from, filled, AreWhole}
use Rattle.placed_sections.specs.Files.{Contents}
use Rattle.placed_sections.proofs.Chains.{Lies, lies-append}
use Rattle.placed_sections.proofs.Kept.{written_some}

-- ** classes

abbrev pub is_writable : SectionClass → Bool
is_writable (Writable initial) = true
is_writable class = false

pub class_is : (class : SectionClass) (kept : Option SectionClass) → is_class class kept ≡ true → kept ≡ Some class
class_is Executable (Some Executable) e = refl
class_is ReadOnly (Some ReadOnly) e = refl
class_is (Tls true) (Some (Tls true)) e = refl
class_is (Tls false) (Some (Tls false)) e = refl
class_is (Writable true) (Some (Writable true)) e = refl
class_is (Writable false) (Some (Writable false)) e = refl
class_is class kept e = cc

module _ (p : Layout) (class : SectionClass) (has : has_address class ≡ true) where
  -- where the class begins and ends, its sections with and without bytes apart
  pub start : ℕ
  start = (group class p.kind p.sections).start

  pub end : ℕ
  end = (group class p.kind p.sections).end

  pub start_is : start ≡ (group class p.kind p.sections).start
  unfolding start
  start_is = refl

  pub end_is : end ≡ (group class p.kind p.sections).end
  unfolding end
  end_is = refl

  pub from_base : base_of p.kind ≤ start
  unfolding start
  from_base = by_class class has (rise p.kind p.sections) (ascend p.kind p.sections)
    where
      by_class : (class : SectionClass) → has_address class ≡ true → Rise p.kind p.sections → Ascend p.kind p.sections
          → base_of p.kind ≤ (group class p.kind p.sections).start
      by_class Executable has r w = omega arith
      by_class ReadOnly has r w = omega arith
      by_class (Tls initial) has r w = omega arith
      by_class (Writable true) has r w = omega arith
      by_class (Writable false) has r w = omega arith

  -- where the sections of the class end that are among the first n of all
  pub end_after : ℕ → ℕ
  end_after n = class_end class start (take n p.sections)

  pub end_none : start ≡ end_after 0
  unfolding end_after
  end_none = end_of-none class start p.sections

  pub end_all : (n : ℕ) → length p.sections ≤ n → end_after n ≡ end
  unfolding end_after start end
  end_all n past = end_of-all class start p.sections n past ∙ sym (group_end p.kind p.sections class has)

  pub end_above : (n : ℕ) → start ≤ end_after n
  unfolding end_after
  end_above n = end_of-rises class start (take n p.sections)

  -- a section that is of another class moves no end
  pub end_skips : (n : ℕ) → is_in class (section_at p.sections n) ≡ false → end_after (n + 1) ≡ end_after n
  unfolding end_after
  end_skips n other = elim (cases_lt n (length p.sections)) [
    | inl below ↦ end_of-more class start p.sections n dropped below ∙ rw other refl
    | inr past ↦ end_all (n + 1) (omega arith) ∙ sym (end_all n past)
  ]

  -- one of the class begins behind those before it
  pub end_moves : (n : ℕ) → (section_at p.sections n).class ≡ Some class
      → end_after (n + 1) ≡ place_in class start p.sections n + (section_at p.sections n).size
  unfolding end_after
  end_moves n is = ends_at class start p.sections n is

  pub begins_after : (n : ℕ) → end_after n ≤ place_in class start p.sections n
  unfolding end_after place_in
  begins_after n = round_up-above (class_end class start (take n p.sections)) (section_at p.sections n).alignment

  pub address_is : (o s n : ℕ) → position p.counts o s ≡ Some n → (section_at p.sections n).class ≡ Some class
      → address_of p o s ≡ Some (place_in class start p.sections n)
  unfolding address_of address_at start
  address_is o s n at is = rw (at, is) (by_class class has)
    where
      by_class : (class : SectionClass) → has_address class ≡ true
          → address_by (Some class) p.kind p.sections n
          ≡ Some (place_in class (group class p.kind p.sections).start p.sections n)
      by_class Executable has = refl
      by_class ReadOnly has = refl
      by_class (Tls true) has = refl
      by_class (Tls false) has = cc
      by_class (Writable true) has = refl
      by_class (Writable false) has = refl

-- ** the sections of one object

-- b: object o
module _ (kind : ImageKind) (objects : List (List ℕ)) (class : SectionClass) (has : has_address class ≡ true) (o : ℕ)
    (b : List ℕ) (within : o < length objects) (here : slice_index_or objects o [] ≡ b) where
  abbrev p : Layout
  p = layout_of kind objects

  pub first : ℕ
  first = sum (take o p.counts)

  pub position_is : (s : ℕ) → s < section_count b → position p.counts o s ≡ Some (first + s)
  unfolding position section_counts first
  position_is s below =
      let count : slice_index p.counts o ≡ section_count b = get_or-map section_count objects o [] 0 within
      ∙ ap section_count here in
      rw (count, lt-ltb s (section_count b) below) refl

  named_is : (s : ℕ) → s < section_count b → section_named p o s ≡ section_at p.sections (first + s)
  unfolding section_named
  named_is s below = rw (position_is s below) refl

  pub section_is : (s : ℕ) → s < section_count b → IsSectionOf b s (section_at p.sections (first + s))
  section_is s below = subst (λ (x : Section). IsSectionOf b s x) (named_is s below)
      (subst (λ (c : List ℕ). IsSectionOf c s (section_named p o s)) here (finds_sections kind objects o s within))

  -- where a section of the class stands
  pub address_some : (s : ℕ) → s < section_count b → is_class class (section_class b s) ≡ true
      → address_of p o s ≡ Some (place_in class (start p class has) p.sections (first + s))
  address_some s below so =
      address_is p class has o s (first + s) (position_is s below)
      ((section_is s below).class_is ∙ class_is class (section_class b s) so)

  -- how far the first n sections of all reach in the file
  reach : ℕ → ℕ
  reach n = offset_of p (end_after p class has n)

  one_lies : (contents : Contents) → AreWhole contents objects → (s : ℕ) → s < section_count b
      → Lies (is_writable class) (reach (first + s)) (placed_section (filled contents) p class o b s)
      (reach (first + s + 1))
  unfolding reach
  one_lies contents are_whole s below = by_class (is_class class (section_class b s)) refl
    where
      is : IsSectionOf b s (section_at p.sections (first + s))
      is = section_is s below

      by_class : (t : Bool) → is_class class (section_class b s) ≡ t
          → Lies (is_writable class) (offset_of p (end_after p class has (first + s)))
          (placed_section (filled contents) p class o b s) (offset_of p (end_after p class has (first + s + 1)))
      by_class false none =
          let other : is_in class (section_at p.sections (first + s)) ≡ false = ap (is_class class) is.class_is
          ∙ none in
          let same = end_skips p class has (first + s) other in
          rw none (record { rising = tt; within = omega arith; none = λ h. refl; ends = λ h. omega arith })
      by_class true so =
          let known = class_is class (section_class b s) so in
          let place = ap (λ a. unwrap_or a 0) (address_some s below so) in
          let size = is.size_is (subst (λ c. IsSome c) (sym known) refl) in
          let moves = end_moves p class has (first + s) (is.class_is ∙ known) in
          let rises = begins_after p class has (first + s) in
          let low = from_base p class has in
          let above = end_above p class has (first + s) in
          let long : length (contents o s) ≡ section_size b s = are_whole o s within
          ∙ ap (λ c. section_size c s) here in
          elim (cases_lt 0 (section_size b s)) [
            | inl some ↦ rw (so, lt-ltb 0 (section_size b s) some) (record {
              rising = (omega arith, tt);
              within = omega arith;
              none = λ h. absurd (omega arith);
              ends = λ h. omega arith;
            })
            | inr empty ↦ rw (so, le-ltb 0 (section_size b s) empty) (record {
              rising = tt;
              within = omega arith;
              none = λ h. refl;
              ends = λ h. absurd (written class h known empty);
            })
          ]
        where
          written : (class : SectionClass) → is_writable class ≡ true → section_class b s ≡ Some class
              → section_size b s ≤ 0 → ⊥
          written (Writable initial) h known empty = let some = written_some b s initial known in omega arith
          written Executable h known empty = cc
          written ReadOnly h known empty = cc
          written (Tls initial) h known empty = cc

  some_lie : (contents : Contents) → AreWhole contents objects → (m s : ℕ) → s + m ≤ section_count b
      → Lies (is_writable class) (reach (first + s))
      (flat_map (placed_section (filled contents) p class o b) (range_with_len s m)) (reach (first + (s + m)))
  some_lie contents are_whole zero s fits =
      let same : reach (first + s) ≡ reach (first + (s + 0)) = ap reach (omega arith) in
      record { rising = tt; within = omega arith; none = λ h. refl; ends = λ h. same }
  some_lie contents are_whole (suc m) s fits =
      let next : first + s + 1 ≡ first + (s + 1) = omega arith in
      let end : first + (s + 1 + m) ≡ first + (s + suc m) = omega arith in
      let rest = some_lie contents are_whole m (s + 1) (omega arith) in
      lies-append (is_writable class) (reach (first + s)) (reach (first + s + 1)) (reach (first + (s + suc m)))
      (placed_section (filled contents) p class o b s)
      (flat_map (placed_section (filled contents) p class o b) (range_with_len (s + 1) m))
      (one_lies contents are_whole s (omega arith))
      (subst (λ n. Lies (is_writable class) n
      (flat_map (placed_section (filled contents) p class o b) (range_with_len (s + 1) m))
      (reach (first + (s + suc m)))) (ap reach (sym next))
      (subst (λ n. Lies (is_writable class) (reach (first + (s + 1)))
      (flat_map (placed_section (filled contents) p class o b) (range_with_len (s + 1) m)) n) (ap reach end) rest))

  pub object_lies : (contents : Contents) → AreWhole contents objects
      → Lies (is_writable class) (offset_of p (end_after p class has (sum (take o p.counts))))
      (placed_object (filled contents) p class o b)
      (offset_of p (end_after p class has (sum (take o p.counts) + section_count b)))
  unfolding placed_object first reach
  object_lies contents are_whole =
      let begin : first + 0 ≡ first = omega arith in
      let end : first + (0 + section_count b) ≡ first + section_count b = omega arith in
      subst (λ n. Lies (is_writable class) n (placed_object (filled contents) p class o b)
      (reach (first + section_count b))) (ap reach begin)
      (subst (λ n. Lies (is_writable class) (reach (first + 0)) (placed_object (filled contents) p class o b) n)
      (ap reach end) (some_lie contents are_whole (section_count b) 0 (omega arith)))

-- ** all objects

pub record Dropped {X : Type 0} (xs : List X) (n : ℕ) (d x : X) (more : List X) : Type 0 where
  pub within : n < length xs
  pub here : slice_index_or xs n d ≡ x
  pub rest : drop (n + 1) xs ≡ more

pub dropped_is : {X : Type 0} (xs : List X) (n : ℕ) (d x : X) (more : List X) → drop n xs ≡ x ∷ more
    → Dropped xs n d x more
dropped_is xs n d x more e = elim (cases_lt n (length xs)) [
  | inl below ↦
      let next : suc n ≡ n + 1 = omega arith in
      let whole : slice_index_or xs n d ∷ drop (n + 1) xs ≡ x ∷ more =
      sym (drop-cons xs n d below ∙ ap (λ m. slice_index_or xs n d ∷ drop m xs) next) ∙ e in
      record { within = below; here = cc; rest = cc }
  | inr past ↦ let none : drop n xs ≡ [] = drop_of_length-le xs past in absurd (impossible (sym none ∙ e))
]
  where
    impossible : ◌≡◌ {A = List _} [] (x ∷ more) → ⊥
    impossible h = cc

none_left : {X : Type 0} (xs : List X) (n : ℕ) → drop n xs ≡ [] → length xs ≤ n
none_left xs n e = let none : length (drop n xs) ≡ 0 = ap length e in omega (arith, none, length-drop n xs)

module _ (kind : ImageKind) (contents : Contents) (objects : List (List ℕ)) (are_whole : AreWhole contents objects)
    (class : SectionClass) (has : has_address class ≡ true) where
  abbrev q : Layout
  q = layout_of kind objects

  some_objects : (more : List (List ℕ)) (o : ℕ) → drop o objects ≡ more
      → Lies (is_writable class) (offset_of q (end_after q class has (sum (take o q.counts))))
      (placed_from (filled contents) q class o more) (offset_of q (end q class has))
  unfolding section_counts all_sections
  some_objects [] o e =
      let past : length objects ≤ o = none_left objects o e in
      let counts : take o q.counts ≡ q.counts =
      take_all o q.counts (omega (arith, (length-map objects section_count))) in
      let total = length-all_sections objects in
      let whole : end_after q class has (sum (take o q.counts)) ≡ end q class has =
      ap (λ n. end_after q class has (sum n)) counts ∙ end_all q class has (sum q.counts) (omega (arith, total)) in
      let same : offset_of q (end_after q class has (sum (take o q.counts))) ≡ offset_of q (end q class has) =
      ap (offset_of q) whole in
      record { rising = tt; within = omega arith; none = λ h. refl; ends = λ h. same }
  some_objects (b ∷ more) o e =
      let at = dropped_is objects o [] b more e in
      let one = object_lies kind objects class has o b at.within at.here contents are_whole in
      let count : slice_index q.counts o ≡ section_count b = get_or-map section_count objects o [] 0 at.within
      ∙ ap section_count at.here in
      let more_counts = sum_by_more (λ x. x) q.counts o 0
      (omega (arith, at.within, (length-map objects section_count))) in
      let next : sum (take o q.counts) + section_count b ≡ sum (take (o + 1) q.counts) =
      omega (arith, count, more_counts) in
      lies-append (is_writable class) (offset_of q (end_after q class has (sum (take o q.counts))))
      (offset_of q (end_after q class has (sum (take o q.counts) + section_count b)))
      (offset_of q (end q class has))
      (placed_object (filled contents) q class o b) (placed_from (filled contents) q class (o + 1) more) one
      (subst (λ n. Lies (is_writable class) n (placed_from (filled contents) q class (o + 1) more)
      (offset_of q (end q class has))) (ap (λ n. offset_of q (end_after q class has n)) (sym next))
      (some_objects more (o + 1) at.rest))

  -- the sections of a class rise from its start, and end at or before its end
  pub class_lies : Lies (is_writable class) (offset_of q (start q class has))
      (placed_from (filled contents) q class 0 objects) (offset_of q (end q class has))
  class_lies =
      subst (λ n. Lies (is_writable class) n (placed_from (filled contents) q class 0 objects)
      (offset_of q (end q class has))) (ap (offset_of q) (sym (end_none q class has))) (some_objects objects 0 refl)
