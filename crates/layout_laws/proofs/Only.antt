-- There is one placement at most.
use Rattle.std.proofs.Common.{◌≡◌, ◌⊎◌, ◌∙◌, ◌+◌, ◌*◌, ◌<◌, ◌≤◌, ℕ, zero, suc, Bool, true, false, List, Option, Some}
use Rattle.std.proofs.Common.{None, refl, sym, ap, subst, inl, inr, arith}
use Rattle.std.specs.Prelude.{if◌then◌else◌}
use Rattle.std.proofs.lemmas.Bool.{cases_Bool, cases_lt}
use Rattle.object_faults.specs.declared.class.SectionClass.{SectionClass}
use Rattle.tls_layout.specs.declared.sections.Section.{Section}
use Rattle.tls_layout.specs.Sections.{section_at}
use Rattle.layout_laws.specs.Layout.{ArePlaces, IsLeast, IsPastClasses, IsPastSections, LiesAt, StandsBefore}
use Rattle.layout_laws.specs.Layout.{class_number, is_zeros}

pub one_least : (unit : ℕ) (P Q : ℕ → Type 0) (a b : ℕ) → ((m : ℕ) → P m → Q m) → ((m : ℕ) → Q m → P m)
    → IsLeast unit P a → IsLeast unit Q b → a ≡ b
one_least unit P Q a b to of is other =
    let low : a ≤ b = at_most unit P Q a b of is other in
    let high : b ≤ a = at_most unit Q P b a to other is in
    omega arith
  where
    at_most : (unit : ℕ) (P Q : ℕ → Type 0) (a b : ℕ) → ((m : ℕ) → Q m → P m) → IsLeast unit P a → IsLeast unit Q b
        → a ≤ b
    at_most unit P Q a b of is other =
        subst (λ (m : ℕ). a ≤ m) (sym other.multiple)
        (is.least other.times (subst P other.multiple (of b other.holds)))

-- where a class stands in the order of all: zeros of a class after what has bytes
stage : SectionClass → ℕ
stage class = 2 * class_number class + (if is_zeros class then 1 else 0)

earlier_stage : (before after : SectionClass) → class_number before < class_number after → stage before < stage after
unfolding stage
earlier_stage before after less = of (is_zeros before) (is_zeros after)
  where
    of : (x y : Bool) → 2 * class_number before + (if x then 1 else 0) < 2 * class_number after + (if y then 1 else 0)
    of true true = omega (arith, less)
    of true false = omega (arith, less)
    of false true = omega (arith, less)
    of false false = omega (arith, less)

before_stage : (before after : SectionClass) (i k : ℕ) → StandsBefore before i after k
    → (stage before < stage after) ⊎ ((stage before ≡ stage after) × (i < k))
unfolding stage
before_stage before after i k (same, inl zeros) = inl (rw (zeros.0, zeros.1) (omega (arith, same)))
before_stage before after i k (same, inr less) = inr (rw (same, less.0) refl, less.1)

module _ (takes : SectionClass → Bool) (base : ℕ) (sections : List Section) (f g : ℕ → Option ℕ)
    (are : ArePlaces takes base sections f) (also : ArePlaces takes base sections g) where
  abbrev Agree : ℕ → SectionClass → Type 0
  Agree i class = (section_at sections i).class ≡ Some class → f i ≡ g i

  -- if all that stands before agrees, so does this one
  agrees_next : (k : ℕ) (class : SectionClass) → (section_at sections k).class ≡ Some class
      → ((i : ℕ) (before : SectionClass) → stage before < stage class → Agree i before)
      → ((i : ℕ) (before : SectionClass) → stage before ≡ stage class → i < k → Agree i before)
      → f k ≡ g k
  agrees_next k class is earlier before = elim (cases_Bool (takes class)) [
    | inr none ↦ are.others k class is none ∙ sym (also.others k class is none)
    | inl some ↦
        let mine = are.placed k class is some in
        let its = also.placed k class is some in
        let starts : mine.1.1.start ≡ its.1.1.start =
        one_least 4096 (IsPastClasses takes base sections f class)
        (IsPastClasses takes base sections g class) mine.1.1.start its.1.1.start
        (λ m past. (
          past.0,
          λ i other c at there less. past.1 i other c at
              (earlier i c (earlier_stage c class less) at ∙ there) less,
        ))
        (λ m past. (
          past.0,
          λ i other c at there less. past.1 i other c at
              (sym (earlier i c (earlier_stage c class less) at) ∙ there) less,
        ))
        mine.1.1.begins its.1.1.begins in
        let same : mine.0 ≡ its.0 =
        one_least (section_at sections k).alignment (IsPastSections takes base sections f mine.1.1.start class k)
        (IsPastSections takes base sections g its.1.1.start class k) mine.0 its.0
        (λ m past. (
          subst (λ (s : ℕ). s ≤ m) starts past.0,
          λ i other c at there stands. past.1 i other c at (agree i c at stands ∙ there) stands,
        ))
        (λ m past. (
          subst (λ (s : ℕ). s ≤ m) (sym starts) past.0,
          λ i other c at there stands. past.1 i other c at (sym (agree i c at stands) ∙ there) stands,
        ))
        mine.1.1.lies its.1.1.lies in
        mine.1.0 ∙ (ap (λ (at : ℕ). Some at) same ∙ sym its.1.0)
  ]
    where
      agree : (i : ℕ) (c : SectionClass) → (section_at sections i).class ≡ Some c → StandsBefore c i class k → f i ≡ g i
      agree i c at stands = of (before_stage c class i k stands)
        where
          of : (stage c < stage class) ⊎ ((stage c ≡ stage class) × (i < k)) → f i ≡ g i
          of (inl less) = earlier i c less at
          of (inr same) = before i c same.0 same.1 at

  in_stage : (n : ℕ) → ((i : ℕ) (before : SectionClass) → stage before < n → Agree i before)
      → (k : ℕ) → (i : ℕ) (class : SectionClass) → stage class ≡ n → i < k → Agree i class
  in_stage n earlier zero i class same less at = absurd (omega (arith, less))
  in_stage n earlier (suc k) i class same less at =
      agrees_next i class at
      (λ j before low. earlier j before (subst (λ (m : ℕ). stage before < m) same low))
      (λ j before there low. in_stage n earlier k j before (there ∙ same) (omega (arith, low, less)))

  all_stages : (n : ℕ) → (i : ℕ) (class : SectionClass) → stage class < n → Agree i class
  all_stages zero i class less at = absurd (omega (arith, less))
  all_stages (suc n) i class less at = elim (cases_lt (stage class) n) [
    | inl low ↦ all_stages n i class low at
    | inr high ↦
        let same : stage class ≡ n = omega (arith, less, high) in
        in_stage n (λ j before low. all_stages n j before low) (suc i) i class same (omega arith) at
  ]

  pub only : (k : ℕ) → f k ≡ g k
  only k = of (section_at sections k).class refl
    where
      of : (c : Option SectionClass) → (section_at sections k).class ≡ c → f k ≡ g k
      of None is = are.dropped k is ∙ sym (also.dropped k is)
      of (Some class) is = all_stages (suc (stage class)) k class (omega arith) is

-- places that are the same are of the same kind
module _ (takes : SectionClass → Bool) (base : ℕ) (sections : List Section) (f g : ℕ → Option ℕ)
    (same : (k : ℕ) → f k ≡ g k) (are : ArePlaces takes base sections g) where
  lies_too : (class : SectionClass) (k at : ℕ) → LiesAt takes base sections g class k at
      → LiesAt takes base sections f class k at
  lies_too class k at is = record {
    start = is.start;
    begins = record {
      times = is.begins.times;
      multiple = is.begins.multiple;
      holds = (is.begins.holds.0, λ i other c at there. is.begins.holds.1 i other c at (sym (same i) ∙ there));
      least = λ fewer past. is.begins.least fewer (past.0, λ i other c at there. past.1 i other c at (same i ∙ there));
    };
    lies = record {
      times = is.lies.times;
      multiple = is.lies.multiple;
      holds = (is.lies.holds.0, λ i other c at there. is.lies.holds.1 i other c at (sym (same i) ∙ there));
      least = λ fewer past. is.lies.least fewer (past.0, λ i other c at there. past.1 i other c at (same i ∙ there));
    };
  }

  pub same_places : ArePlaces takes base sections f
  same_places = record {
    placed = λ k class is some. let its = are.placed k class is some in
        (its.0, (same k ∙ its.1.0, lies_too class k its.0 its.1.1));
    others = λ k class is none. same k ∙ are.others k class is none;
    dropped = λ k is. same k ∙ are.dropped k is;
  }
