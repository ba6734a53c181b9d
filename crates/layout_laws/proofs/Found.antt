-- The walk over sections finds the least places.
use Rattle.std.proofs.Common.{◌≡◌, ◌⊎◌, ◌∙◌, ◌+◌, ◌*◌, ◌<◌, ◌≤◌, ℕ, zero, suc, Bool, true, false, List, length, take}
use Rattle.std.proofs.Common.{Option, Some, None, refl, sym, ap, subst, inl, inr, arith}
use Rattle.std.proofs.lemmas.Bool.{cases_Bool, cases_lt}
use Rattle.object_faults.specs.declared.class.SectionClass.{SectionClass}
use Rattle.object_faults.specs.declared.class.SectionClass.TheVariants.{Executable, ReadOnly, Tls, Writable}
use Rattle.tls_layout.specs.declared.sections.Section.{Section}
use Rattle.tls_layout.specs.Places.{end_of, next_end, place_in}
use Rattle.tls_layout.specs.Rounding.{page_up, round_up}
use Rattle.tls_layout.specs.Sections.{dropped, is_in, is_class, same_class, section_at}
use Rattle.tls_layout.proofs.Ends.{end_of-all, end_of-front, end_of-more, end_of-none, end_of-rises}
use Rattle.tls_layout.proofs.LawsOfPlaces.{ends_at, from_start, one_before, within}
use Rattle.tls_layout.proofs.Rounds.{least_multiple}
use Rattle.layout_laws.specs.Layout.{IsLeast, IsPastClasses, IsPastSections, StandsBefore, class_number}

-- rounding gives the least multiple with a bound, if what holds is that bound
pub rounded : (unit end : ℕ) (Holds : ℕ → Type 0) → 0 < unit → Holds (round_up end unit)
    → ((fewer : ℕ) → Holds (fewer * unit) → end ≤ fewer * unit) → IsLeast unit Holds (round_up end unit)
rounded unit end Holds some holds need =
    let is = least_multiple end unit some in
    record {
      times = is.multiple.0;
      multiple = is.multiple.1 ∙ omega arith;
      holds = holds;
      least = λ fewer h. is.least (fewer * unit) (fewer, omega arith) (need fewer h);
    }

pub round_up-over : (end unit : ℕ) → 0 < unit → end ≤ round_up end unit
round_up-over end unit some = (least_multiple end unit some).above

-- who is in a class has it
same_is : (a b : SectionClass) → same_class a b ≡ true → b ≡ a
same_is Executable Executable e = refl
same_is ReadOnly ReadOnly e = refl
same_is (Tls true) (Tls true) e = refl
same_is (Tls false) (Tls false) e = refl
same_is (Writable true) (Writable true) e = refl
same_is (Writable false) (Writable false) e = refl
same_is Executable ReadOnly e = cc
same_is Executable (Tls x) e = cc
same_is Executable (Writable x) e = cc
same_is ReadOnly Executable e = cc
same_is ReadOnly (Tls x) e = cc
same_is ReadOnly (Writable x) e = cc
same_is (Tls true) (Tls false) e = cc
same_is (Tls false) (Tls true) e = cc
same_is (Tls true) Executable e = cc
same_is (Tls false) Executable e = cc
same_is (Tls true) ReadOnly e = cc
same_is (Tls false) ReadOnly e = cc
same_is (Tls true) (Writable y) e = cc
same_is (Tls false) (Writable y) e = cc
same_is (Writable true) (Writable false) e = cc
same_is (Writable false) (Writable true) e = cc
same_is (Writable true) Executable e = cc
same_is (Writable false) Executable e = cc
same_is (Writable true) ReadOnly e = cc
same_is (Writable false) ReadOnly e = cc
same_is (Writable true) (Tls y) e = cc
same_is (Writable false) (Tls y) e = cc

of_class : (class : SectionClass) (o : Option SectionClass) → is_class class o ≡ true → o ≡ Some class
of_class class None e = cc
of_class class (Some other) e = ap (λ (c : SectionClass). Some c) (same_is class other e)

-- one class
module _ (class : SectionClass) (from : ℕ) (sections : List Section) where
  abbrev pub place : ℕ → ℕ
  place k = place_in class from sections k

  abbrev pub IsHere : ℕ → Type 0
  IsHere k = (section_at sections k).class ≡ Some class

  -- each of its sections ends where the class ends, or before
  pub ends_within : (k : ℕ) → IsHere k → place k + (section_at sections k).size ≤ end_of class from sections
  ends_within k here =
      subst (λ (n : ℕ). n ≤ end_of class from sections) (ends_at class from sections k here)
      (end_of-front class from sections (k + 1))

  -- the class ends at the first place past its sections
  front_below : (m : ℕ) → from ≤ m → (k : ℕ) → k ≤ length sections
      → ((j : ℕ) → j < k → IsHere j → place j + (section_at sections j).size ≤ m)
      → end_of class from (take k sections) ≤ m
  front_below m low zero few each = subst (λ (n : ℕ). n ≤ m) (end_of-none class from sections) low
  front_below m low (suc k) few each =
      let more : end_of class from (take (k + 1) sections)
      ≡ next_end class (end_of class from (take k sections)) (section_at sections k) =
      end_of-more class from sections k dropped (omega arith) in
      let rest = front_below m low k (omega arith) (λ j less here. each j (omega arith) here) in
      let next : k + 1 ≡ suc k = omega arith in
      subst (λ (n : ℕ). end_of class from (take n sections) ≤ m) next
      (elim (cases_Bool (is_in class (section_at sections k))) [
        | inl t ↦
            let here : IsHere k = of_class class (section_at sections k).class t in
            subst (λ (n : ℕ). n ≤ m) (sym (ends_at class from sections k here)) (each k (omega arith) here)
        | inr f ↦ subst (λ (n : ℕ). n ≤ m) (sym (more ∙ (rw f refl))) rest
      ])

  pub all_below : (m : ℕ) → from ≤ m → ((j : ℕ) → IsHere j → place j + (section_at sections j).size ≤ m)
      → end_of class from sections ≤ m
  all_below m low each =
      subst (λ (n : ℕ). n ≤ m) (end_of-all class from sections (length sections) (omega arith))
      (front_below m low (length sections) (omega arith) (λ j less here. each j here))

  -- a section lies at the least multiple past the start and those before it
  pub lies_least : (Holds : ℕ → Type 0) (k : ℕ) → IsHere k → 0 < (section_at sections k).alignment → Holds (place k)
      → ((m : ℕ) → Holds m → from ≤ m)
      → ((m j : ℕ) → Holds m → j < k → IsHere j → place j + (section_at sections j).size ≤ m)
      → IsLeast (section_at sections k).alignment Holds (place k)
  unfolding place_in
  lies_least Holds k here some holds low each =
      rounded (section_at sections k).alignment (end_of class from (take k sections)) Holds some holds
      (λ fewer h. let there = within sections k class here in
      front_below (fewer * (section_at sections k).alignment) (low _ h) k (omega arith)
      (λ j less is. each _ j h less is))

  pub from_below : (k : ℕ) → from ≤ place k
  from_below k = from_start class from sections k

-- ** classes one after another

module _ (takes : SectionClass → Bool) (base : ℕ) (sections : List Section) (f : ℕ → Option ℕ) where
  abbrev Past : SectionClass → ℕ → Type 0
  Past = IsPastClasses takes base sections f

  -- a class whose sections have these places
  pub record Has (class : SectionClass) (from : ℕ) : Type 0 where
    pub at : (k : ℕ) → (section_at sections k).class ≡ Some class → f k ≡ Some (place_in class from sections k)

  some_is : {o : Option ℕ} {a b : ℕ} → o ≡ Some a → o ≡ Some b → a ≡ b
  some_is x y = let same = sym x ∙ y in cc

  pub ends : (class : SectionClass) (from : ℕ) → Has class from → (i other : ℕ)
      → (section_at sections i).class ≡ Some class
      → f i ≡ Some other → other + (section_at sections i).size ≤ end_of class from sections
  ends class from has i other here there =
      let same : place_in class from sections i ≡ other = some_is (has.at i here) there in
      subst (λ (n : ℕ). n + (section_at sections i).size ≤ end_of class from sections) same
      (ends_within class from sections i here)

  -- if one class begins at the least page, so does the next, past its end
  pub next_page : (class next : SectionClass) (start : ℕ) → class_number next ≡ class_number class + 1
      → Has class start
      → ((i other : ℕ) (c : SectionClass) → (section_at sections i).class ≡ Some c → f i ≡ Some other
      → class_number c ≡ class_number class → c ≡ class)
      → IsLeast 4096 (Past class) start → IsLeast 4096 (Past next) (page_up (end_of class start sections))
  unfolding page_up
  next_page class next start number has alone is =
      rounded 4096 (end_of class start sections) (Past next) (omega arith) holds need
    where
      over : end_of class start sections ≤ round_up (end_of class start sections) 4096
      over = round_up-over (end_of class start sections) 4096 (omega arith)

      rises : start ≤ end_of class start sections
      rises = end_of-rises class start sections

      past : (i other : ℕ) (c : SectionClass) → (section_at sections i).class ≡ Some c → f i ≡ Some other
          → class_number c < class_number next
          → other + (section_at sections i).size ≤ round_up (end_of class start sections) 4096
      past i other c at there less = elim (cases_lt (class_number c) (class_number class)) [
        | inl low ↦ let before = is.holds.1 i other c at there low in omega (arith, before, rises, over)
        | inr high ↦
            let same : c ≡ class = alone i other c at there (omega (arith, number, less, high)) in
            let here : (section_at sections i).class ≡ Some class = at ∙ ap (λ (c : SectionClass). Some c) same in
            omega (arith, ends class start has i other here there, over)
      ]

      holds : Past next (round_up (end_of class start sections) 4096)
      holds = (let first = is.holds.0 in omega (arith, first, rises, over), past)

      low : (m : ℕ) → Past next m → Past class m
      low m h = (h.0, λ i other c at there less. h.1 i other c at there (omega (arith, number, less)))

      need : (fewer : ℕ) → Past next (fewer * 4096) → end_of class start sections ≤ fewer * 4096
      need fewer h = all_below class start sections (fewer * 4096) (is.least fewer (low (fewer * 4096) h)) (λ j here.
          h.1 j (place_in class start sections j) class here (has.at j here) (omega (arith, number)))

  -- ** a section in its class

  abbrev PastIn : ℕ → SectionClass → ℕ → ℕ → Type 0
  PastIn = IsPastSections takes base sections f

  -- the sections of a class from a place on, which is past all that else stands before them in it
  pub lies_there : (class : SectionClass) (start from k : ℕ) → (section_at sections k).class ≡ Some class
      → 0 < (section_at sections k).alignment → Has class from → start ≤ from
      → ((i other : ℕ) (c : SectionClass) → (section_at sections i).class ≡ Some c → f i ≡ Some other
      → StandsBefore c i class k → ((c ≡ class) × (i < k)) ⊎ (other + (section_at sections i).size ≤ from))
      → ((m : ℕ) → PastIn start class k m → from ≤ m)
      → IsLeast (section_at sections k).alignment (PastIn start class k) (place_in class from sections k)
  lies_there class start from k here some has low before need =
      lies_least class from sections (PastIn start class k) k here some holds need (λ m j h less is.
      h.1 j (place_in class from sections j) class is (has.at j is) (refl, inr (refl, less)))
    where
      at_least : from ≤ place_in class from sections k
      at_least = from_below class from sections k

      of : (i other : ℕ) (c : SectionClass) → (section_at sections i).class ≡ Some c → f i ≡ Some other
          → ((c ≡ class) × (i < k)) ⊎ (other + (section_at sections i).size ≤ from)
          → other + (section_at sections i).size ≤ place_in class from sections k
      of i other c at there (inl same) =
          let is : (section_at sections i).class ≡ Some class = at ∙ ap (λ (c : SectionClass). Some c) same.0 in
          let mine : place_in class from sections i ≡ other = some_is (has.at i is) there in
          subst (λ (n : ℕ). n + (section_at sections i).size ≤ place_in class from sections k) mine
          (one_before class from sections i k same.1 is)
      of i other c at there (inr past) = omega (arith, past, at_least)

      holds : PastIn start class k (place_in class from sections k)
      holds = (
        omega (arith, low, at_least),
        λ i other c at there stands. of i other c at there (before i other c at there stands),
      )
