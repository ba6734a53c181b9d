-- Where sections lie in an image.
use Rattle.std.proofs.Common.{◌≡◌, ◌≢◌, ℕ, ◌+◌, ◌<◌, ◌≤◌, Bool, true, false, List, length, slice_index, take, All}
use Rattle.std.proofs.Common.{Option, Some, None, IsSome, refl, sym, ap, subst, ◌∙◌, arith, inl, inr, ◌⊎◌}
use Rattle.std.specs.Prelude.{sum, nat_lt, option_and_then}
use Rattle.std.proofs.lemmas.Bool.{cases_lt}
use Rattle.std.proofs.lemmas.Bool.Decides.{nat_tests}
use Rattle.std.proofs.lemmas.List.{get_or_past, take-take}
use Rattle.std.proofs.lemmas.List.Sums.{sum_by_more, sum_by-take-le}
use Rattle.std.proofs.lemmas.Option.{same_Some, none-some, cond_some, option_and_then_some}
use Rattle.object_faults.specs.declared.class.SectionClass.{SectionClass}
use Rattle.object_faults.specs.declared.class.SectionClass.TheVariants.{Executable, ReadOnly, Tls, Writable}
use Rattle.link_faults.specs.declared.image_kind.ImageKind.{ImageKind}
use Rattle.link_faults.specs.declared.image_kind.ImageKind.TheVariants.{Exe, Pie, Start, Late}
use Rattle.link_faults.specs.ImageKinds.{base_of}
use Rattle.tls_layout.specs.declared.sections.Section.{Section}
use Rattle.tls_layout.specs.declared.extent.Extent.{Extent}
use Rattle.tls_layout.specs.Rounding.{round_up, page_up, IsMultiple}
use Rattle.tls_layout.specs.Sections.{Layout, dropped, position, section_at, is_in, same_class, IsOrdinary}
use Rattle.tls_layout.specs.Places.{end_of, place_in, executable, read_only, tls_image, initial_data, zero_data, room}
use Rattle.tls_layout.specs.Places.{address_by, address_at, section_found, section_named, address_of, IsLawful}
use Rattle.tls_layout.specs.Laws.{LiesAt, LieInTheirClasses, HaveAddresses, AddressesAreApart, ClassesFollow}
use Rattle.tls_layout.specs.Places.{extent_for}
use Rattle.tls_layout.proofs.Rounds.{round_up-above, round_up-multiple, power_bounds}
use Rattle.tls_layout.proofs.Ends.{end_of-rises, end_of-more, end_of-front}
use Rattle.tls_layout.proofs.Together.{page_up-above, Rise, rise, Ascend, ascend}

-- ---- places by object and section

-- a section is found once
position_some : (counts : List ℕ) (o s k : ℕ) → position counts o s ≡ Some k
    → (s < slice_index counts o) × (k ≡ sum (take o counts) + s)
unfolding position
position_some counts o s k e = let is = cond_some _ _ _ e in (below s (slice_index counts o) is.0, sym is.1)
  where
    below : (s n : ℕ) → nat_lt s n ≡ true → s < n
    below s n h = grind (arith, nat_tests)

in_counts : (counts : List ℕ) (o s : ℕ) → s < slice_index counts o → o < length counts
in_counts counts o s h = elim (cases_lt o (length counts)) [
  | inl below ↦ below
  | inr past ↦ absurd (omega (arith, get_or_past counts o 0 past))
]

-- sections of an earlier object stand before those of a later one
earlier_object : (counts : List ℕ) (o s o' s' : ℕ) → o < o' → s < slice_index counts o
    → sum (take o counts) + s < sum (take o' counts) + s'
earlier_object counts o s o' s' less h =
    let one = sum_by_more (λ x. x) counts o 0 (in_counts counts o s h) in
    let shorter : sum (take (o + 1) counts) ≤ sum (take o' counts) =
    rw (← take-take (o + 1) o' counts (omega arith)) (sum_by-take-le (λ x. x) (take o' counts) (o + 1)) in
    omega arith

pub same_place : (counts : List ℕ) (o s o' s' k : ℕ) → position counts o s ≡ Some k → position counts o' s' ≡ Some k
    → (o ≡ o') × (s ≡ s')
same_place counts o s o' s' k first second =
    let a = position_some counts o s k first in
    let b = position_some counts o' s' k second in
    elim (cases_lt o o') [
      | inl less ↦ absurd (omega (arith, earlier_object counts o s o' s' less a.0, a.1, b.1))
      | inr more ↦ elim (cases_lt o' o) [
        | inl less ↦ absurd (omega (arith, earlier_object counts o' s' o s less b.0, a.1, b.1))
        | inr same ↦
            let e : o ≡ o' = omega arith in
            let at : sum (take o counts) ≡ sum (take o' counts) = ap (λ n. sum (take n counts)) e in
            (e, omega (arith, at, a.1, b.1))
      ]
    ]

-- a section at a place of the order, with what was asked of it
pub record FoundAt {X : Type 0} (p : Layout) (o s : ℕ) (f : ℕ → Option X) (x : X) : Type 0 where
  pub place : ℕ
  pub position_is : position p.counts o s ≡ Some place
  pub gives : f place ≡ Some x
  pub named : section_named p o s ≡ section_at p.sections place

pub found_at : {X : Type 0} (p : Layout) (o s : ℕ) (f : ℕ → Option X) (x : X)
    → option_and_then f (position p.counts o s) ≡ Some x → FoundAt p o s f x
unfolding section_named
found_at p o s f x e = option_and_then_some f (position p.counts o s) x e (λ k at gives. record {
  place = k;
  position_is = at;
  gives = gives;
  named = rw at refl;
})

-- ---- one class

pub in_class : (class : SectionClass) (section : Section) → section.class ≡ Some class → is_in class section ≡ true
in_class class section e = rw e (same class)
  where
    same : (class : SectionClass) → same_class class class ≡ true
    same Executable = refl
    same ReadOnly = refl
    same (Tls true) = refl
    same (Tls false) = refl
    same (Writable true) = refl
    same (Writable false) = refl

pub within : (sections : List Section) (k : ℕ) (class : SectionClass) → (section_at sections k).class ≡ Some class
    → k < length sections
within sections k class e = elim (cases_lt k (length sections)) [
  | inl below ↦ below
  | inr past ↦ let none : section_at sections k ≡ dropped = get_or_past sections k dropped past in
      absurd (impossible (rw none at e))
]
  where
    impossible : None ≡ Some class → ⊥
    impossible h = cc

-- where a section of the class ends
pub ends_at : (class : SectionClass) (from : ℕ) (sections : List Section) (k : ℕ)
    → (section_at sections k).class ≡ Some class
    → end_of class from (take (k + 1) sections) ≡ place_in class from sections k + (section_at sections k).size
unfolding place_in
ends_at class from sections k e =
    rw (
      end_of-more class from sections k dropped (within sections k class e),
      in_class class (section_at sections k) e,
    ) refl

end_of-between : (class : SectionClass) (from : ℕ) (sections : List Section) (j k : ℕ) → j ≤ k
    → end_of class from (take j sections) ≤ end_of class from (take k sections)
end_of-between class from sections j k le =
    rw (← take-take j k sections le) (end_of-front class from (take k sections) j)

-- a section of the class ends before a later one begins
pub one_before : (class : SectionClass) (from : ℕ) (sections : List Section) (j k : ℕ) → j < k
    → (section_at sections j).class ≡ Some class
    → place_in class from sections j + (section_at sections j).size ≤ place_in class from sections k
unfolding place_in
one_before class from sections j k less e =
    let ends : end_of class from (take (j + 1) sections)
    ≡ round_up (end_of class from (take j sections)) (section_at sections j).alignment
    + (section_at sections j).size =
    ends_at class from sections j e in
    omega (
      arith,
      ends,
      end_of-between class from sections (j + 1) k (omega arith),
      round_up-above (end_of class from (take k sections)) (section_at sections k).alignment,
    )

pub from_start : (class : SectionClass) (from : ℕ) (sections : List Section) (k : ℕ)
    → from ≤ place_in class from sections k
unfolding place_in
from_start class from sections k =
    omega (
      arith,
      end_of-rises class from (take k sections),
      round_up-above (end_of class from (take k sections)) (section_at sections k).alignment,
    )

pub to_end : (class : SectionClass) (from : ℕ) (sections : List Section) (k : ℕ)
    → (section_at sections k).class ≡ Some class
    → place_in class from sections k + (section_at sections k).size ≤ end_of class from sections
to_end class from sections k e =
    omega (arith, ends_at class from sections k e, end_of-front class from sections (k + 1))

pub aligned_at : (class : SectionClass) (from : ℕ) (sections : List Section) (k : ℕ) → All IsOrdinary sections
    → (section_at sections k).class ≡ Some class
    → IsMultiple (place_in class from sections k) (section_at sections k).alignment
unfolding place_in
aligned_at class from sections k ordinary e =
    let is = ordinary k dropped (within sections k class e) in
    round_up-multiple (end_of class from (take k sections)) (section_at sections k).alignment
    (power_bounds (section_at sections k).alignment is.1).0

-- ---- the classes, those with and without bytes apart

abbrev pub group : SectionClass → ImageKind → List Section → Extent
group Executable kind sections = executable kind sections
group ReadOnly kind sections = read_only kind sections
group (Tls initial) kind sections = tls_image kind sections
group (Writable true) kind sections = initial_data kind sections
group (Writable false) kind sections = zero_data kind sections

abbrev pub rank : SectionClass → ℕ
rank Executable = 0
rank ReadOnly = 1
rank (Tls initial) = 2
rank (Writable true) = 3
rank (Writable false) = 4

abbrev pub has_address : SectionClass → Bool
has_address (Tls false) = false
has_address _ = true

same_rank : (c c' : SectionClass) → rank c ≡ rank c' → has_address c ≡ true → has_address c' ≡ true → c ≡ c'
same_rank Executable Executable e h g = refl
same_rank Executable ReadOnly e h g = absurd (omega arith)
same_rank Executable (Tls true) e h g = absurd (omega arith)
same_rank Executable (Tls false) e h g = absurd (omega arith)
same_rank Executable (Writable true) e h g = absurd (omega arith)
same_rank Executable (Writable false) e h g = absurd (omega arith)
same_rank ReadOnly Executable e h g = absurd (omega arith)
same_rank ReadOnly ReadOnly e h g = refl
same_rank ReadOnly (Tls true) e h g = absurd (omega arith)
same_rank ReadOnly (Tls false) e h g = absurd (omega arith)
same_rank ReadOnly (Writable true) e h g = absurd (omega arith)
same_rank ReadOnly (Writable false) e h g = absurd (omega arith)
same_rank (Tls true) Executable e h g = absurd (omega arith)
same_rank (Tls true) ReadOnly e h g = absurd (omega arith)
same_rank (Tls true) (Tls true) e h g = refl
same_rank (Tls true) (Tls false) e h g = absurd (cc)
same_rank (Tls true) (Writable true) e h g = absurd (omega arith)
same_rank (Tls true) (Writable false) e h g = absurd (omega arith)
same_rank (Tls false) Executable e h g = absurd (omega arith)
same_rank (Tls false) ReadOnly e h g = absurd (omega arith)
same_rank (Tls false) (Tls true) e h g = absurd (cc)
same_rank (Tls false) (Tls false) e h g = refl
same_rank (Tls false) (Writable true) e h g = absurd (omega arith)
same_rank (Tls false) (Writable false) e h g = absurd (omega arith)
same_rank (Writable true) Executable e h g = absurd (omega arith)
same_rank (Writable true) ReadOnly e h g = absurd (omega arith)
same_rank (Writable true) (Tls true) e h g = absurd (omega arith)
same_rank (Writable true) (Tls false) e h g = absurd (omega arith)
same_rank (Writable true) (Writable true) e h g = refl
same_rank (Writable true) (Writable false) e h g = absurd (omega arith)
same_rank (Writable false) Executable e h g = absurd (omega arith)
same_rank (Writable false) ReadOnly e h g = absurd (omega arith)
same_rank (Writable false) (Tls true) e h g = absurd (omega arith)
same_rank (Writable false) (Tls false) e h g = absurd (omega arith)
same_rank (Writable false) (Writable true) e h g = absurd (omega arith)
same_rank (Writable false) (Writable false) e h g = refl

ordered : (kind : ImageKind) (sections : List Section) (c c' : SectionClass) → rank c < rank c'
    → (group c kind sections).end ≤ (group c' kind sections).start
ordered kind sections Executable Executable less = absurd (omega arith)
ordered kind sections Executable ReadOnly less = let w = ascend kind sections in let r = rise kind sections in
    omega arith
ordered kind sections Executable (Tls true) less = let w = ascend kind sections in let r = rise kind sections in
    omega arith
ordered kind sections Executable (Tls false) less = let w = ascend kind sections in let r = rise kind sections in
    omega arith
ordered kind sections Executable (Writable true) less = let w = ascend kind sections in let r = rise kind sections in
    omega arith
ordered kind sections Executable (Writable false) less = let w = ascend kind sections in let r = rise kind sections in
    omega arith
ordered kind sections ReadOnly Executable less = absurd (omega arith)
ordered kind sections ReadOnly ReadOnly less = absurd (omega arith)
ordered kind sections ReadOnly (Tls true) less = let w = ascend kind sections in let r = rise kind sections in
    omega arith
ordered kind sections ReadOnly (Tls false) less = let w = ascend kind sections in let r = rise kind sections in
    omega arith
ordered kind sections ReadOnly (Writable true) less = let w = ascend kind sections in let r = rise kind sections in
    omega arith
ordered kind sections ReadOnly (Writable false) less = let w = ascend kind sections in let r = rise kind sections in
    omega arith
ordered kind sections (Tls true) Executable less = absurd (omega arith)
ordered kind sections (Tls true) ReadOnly less = absurd (omega arith)
ordered kind sections (Tls true) (Tls true) less = absurd (omega arith)
ordered kind sections (Tls true) (Tls false) less = absurd (omega arith)
ordered kind sections (Tls true) (Writable true) less = let w = ascend kind sections in let r = rise kind sections in
    omega arith
ordered kind sections (Tls true) (Writable false) less = let w = ascend kind sections in let r = rise kind sections in
    omega arith
ordered kind sections (Tls false) Executable less = absurd (omega arith)
ordered kind sections (Tls false) ReadOnly less = absurd (omega arith)
ordered kind sections (Tls false) (Tls true) less = absurd (omega arith)
ordered kind sections (Tls false) (Tls false) less = absurd (omega arith)
ordered kind sections (Tls false) (Writable true) less = let w = ascend kind sections in let r = rise kind sections in
    omega arith
ordered kind sections (Tls false) (Writable false) less = let w = ascend kind sections in let r = rise kind sections in
    omega arith
ordered kind sections (Writable true) Executable less = absurd (omega arith)
ordered kind sections (Writable true) ReadOnly less = absurd (omega arith)
ordered kind sections (Writable true) (Tls true) less = absurd (omega arith)
ordered kind sections (Writable true) (Tls false) less = absurd (omega arith)
ordered kind sections (Writable true) (Writable true) less = absurd (omega arith)
ordered kind sections (Writable true) (Writable false) less = let w = ascend kind sections in
    let r = rise kind sections in omega arith
ordered kind sections (Writable false) Executable less = absurd (omega arith)
ordered kind sections (Writable false) ReadOnly less = absurd (omega arith)
ordered kind sections (Writable false) (Tls true) less = absurd (omega arith)
ordered kind sections (Writable false) (Tls false) less = absurd (omega arith)
ordered kind sections (Writable false) (Writable true) less = absurd (omega arith)
ordered kind sections (Writable false) (Writable false) less = absurd (omega arith)

-- the group ends where its sections do
pub group_end : (kind : ImageKind) (sections : List Section) (c : SectionClass) → has_address c ≡ true
    → (group c kind sections).end ≡ end_of c (group c kind sections).start sections
unfolding executable read_only tls_image initial_data zero_data
group_end kind sections Executable h = refl
group_end kind sections ReadOnly h = refl
group_end kind sections (Tls true) h = refl
group_end kind sections (Tls false) h = absurd (cc)
group_end kind sections (Writable true) h = refl
group_end kind sections (Writable false) h = refl

-- a section that has an address lies in its group
pub record PlacedIn (kind : ImageKind) (sections : List Section) (k address : ℕ) : Type 0 where
  pub class : SectionClass
  pub is : (section_at sections k).class ≡ Some class
  pub has : has_address class ≡ true
  pub place : address ≡ place_in class (group class kind sections).start sections k

pub placed : (kind : ImageKind) (sections : List Section) (k address : ℕ) → address_at kind sections k ≡ Some address
    → PlacedIn kind sections k address
unfolding address_at
placed kind sections k address e = by_class (section_at sections k).class refl e
  where
    by_class : (class : Option SectionClass) → (section_at sections k).class ≡ class
        → address_by class kind sections k ≡ Some address → PlacedIn kind sections k address
    by_class None is e = absurd (none-some address e)
    by_class (Some Executable) is e = record { class = Executable; is = is; has = refl; place = sym (same_Some _ _ e) }
    by_class (Some ReadOnly) is e = record { class = ReadOnly; is = is; has = refl; place = sym (same_Some _ _ e) }
    by_class (Some (Tls true)) is e = record { class = Tls true; is = is; has = refl; place = sym (same_Some _ _ e) }
    by_class (Some (Tls false)) is e = absurd (none-some address e)
    by_class (Some (Writable true)) is e =
        record { class = Writable true; is = is; has = refl; place = sym (same_Some _ _ e) }
    by_class (Some (Writable false)) is e =
        record { class = Writable false; is = is; has = refl; place = sym (same_Some _ _ e) }

-- ---- apart

placed_before : (kind : ImageKind) (sections : List Section) (j k a b : ℕ) → j < k → PlacedIn kind sections j a
    → PlacedIn kind sections k b
    → (a + (section_at sections j).size ≤ b) ⊎ (b + (section_at sections k).size ≤ a)
placed_before kind sections j k a b less first second =
    let low = to_end first.class (group first.class kind sections).start sections j first.is in
    let high = to_end second.class (group second.class kind sections).start sections k second.is in
    let low_end = group_end kind sections first.class first.has in
    let high_end = group_end kind sections second.class second.has in
    let low_start = from_start first.class (group first.class kind sections).start sections j in
    let high_start = from_start second.class (group second.class kind sections).start sections k in
    elim (cases_lt (rank first.class) (rank second.class)) [
      | inl under ↦ inl (omega (arith, ordered kind sections first.class second.class under, first.place, second.place))
      | inr over ↦ elim (cases_lt (rank second.class) (rank first.class)) [
        | inl under ↦ inr (omega
            (arith, ordered kind sections second.class first.class under, first.place, second.place))
        | inr same ↦ inl (in_one (same_rank first.class second.class (omega arith) first.has second.has))
      ]
    ]
  where
    in_one : first.class ≡ second.class → a + (section_at sections j).size ≤ b
    in_one e =
        let P : SectionClass → Type 0 = λ c. b ≡ place_in c (group c kind sections).start sections k in
        let there = subst P (sym e) second.place in
        rw (first.place, there)
        (one_before first.class (group first.class kind sections).start sections j k less first.is)

pub addresses_apart : (p : Layout) → AddressesAreApart p
unfolding address_of
addresses_apart p o s a o' s' a' e e' =
    let x = found_at p o s (address_at p.kind p.sections) a e in
    let y = found_at p o' s' (address_at p.kind p.sections) a' e' in
    let first = placed p.kind p.sections x.place a x.gives in
    let second = placed p.kind p.sections y.place a' y.gives in
    elim (cases_lt x.place y.place) [
      | inl less ↦ inr (rw (x.named, y.named) (placed_before p.kind p.sections x.place y.place a a' less first second))
      | inr more ↦ elim (cases_lt y.place x.place) [
        | inl less ↦ inr (rw (x.named, y.named)
            (other (placed_before p.kind p.sections y.place x.place a' a less second first)))
        | inr same ↦
            let e : y.place ≡ x.place = omega arith in
            inl (same_place p.counts o s o' s' x.place x.position_is (y.position_is ∙ ap Some e))
      ]
    ]
  where
    other : {P Q : Type 0} → P ⊎ Q → Q ⊎ P
    other (inl h) = inr h
    other (inr h) = inl h

-- ---- in their classes

-- a group lies in its class, from the base up to the room
record LiesIn (class : SectionClass) (p : Layout) : Type 0 where
  pub begins : (extent_for class p).start ≤ (group class p.kind p.sections).start
  pub ends : (group class p.kind p.sections).end ≤ (extent_for class p).end
  pub above : base_of p.kind ≤ (group class p.kind p.sections).start
  pub below : (group class p.kind p.sections).end ≤ room p.kind p.sections

lies_in : (class : SectionClass) (p : Layout) → LiesIn class p
unfolding room
lies_in class p =
    let w = ascend p.kind p.sections in
    let r = rise p.kind p.sections in
    let over = page_up-above (zero_data p.kind p.sections).end in
    by_class class r w over
  where
    by_class : (class : SectionClass) → Rise p.kind p.sections → Ascend p.kind p.sections
        → (zero_data p.kind p.sections).end ≤ room p.kind p.sections → LiesIn class p
    by_class Executable r w over =
        record { begins = omega arith; ends = omega arith; above = omega arith; below = omega arith }
    by_class ReadOnly r w over =
        record { begins = omega arith; ends = omega arith; above = omega arith; below = omega arith }
    by_class (Tls initial) r w over =
        record { begins = omega arith; ends = omega arith; above = omega arith; below = omega arith }
    by_class (Writable true) r w over =
        record { begins = omega arith; ends = omega arith; above = omega arith; below = omega arith }
    by_class (Writable false) r w over =
        record { begins = omega arith; ends = omega arith; above = omega arith; below = omega arith }

pub lie_in_classes : (p : Layout) → IsLawful p → LieInTheirClasses p
unfolding address_of
lie_in_classes p lawful o s a class c e =
    let x = found_at p o s (address_at p.kind p.sections) a e in
    let is = placed p.kind p.sections x.place a x.gives in
    let same : is.class ≡ class = same_Some _ _ (sym is.is ∙ (ap (λ (y : Section). y.class) (sym x.named) ∙ c)) in
    let P : SectionClass → Type 0 = λ y. LiesAt p y (section_named p o s) a in
    subst P same (lies x.place is x.named)
  where
    lies : (k : ℕ) → (is : PlacedIn p.kind p.sections k a) → section_named p o s ≡ section_at p.sections k
        → LiesAt p is.class (section_named p o s) a
    lies k is named =
        let low = from_start is.class (group is.class p.kind p.sections).start p.sections k in
        let high = to_end is.class (group is.class p.kind p.sections).start p.sections k is.is in
        let end = group_end p.kind p.sections is.class is.has in
        let in_it = lies_in is.class p in
        rw (named, is.place) (record {
          aligned = aligned_at is.class (group is.class p.kind p.sections).start p.sections k lawful.ordinary is.is;
          begins = omega arith;
          ends = omega arith;
          above = omega arith;
          below = omega arith;
        })

pub have_addresses : (p : Layout) → HaveAddresses p
unfolding address_of section_named address_at
have_addresses p o s class c other = by_position (position p.counts o s) c
  where
    by_position : (k : Option ℕ) → (section_found k p.sections).class ≡ Some class
        → IsSome (option_and_then (λ k. address_by (section_at p.sections k).class p.kind p.sections k) k)
    by_position None c = absurd (cc)
    by_position (Some k) c = rw c (by_class class other k)
      where
        by_class : (class : SectionClass) → class ≢ Tls false → (k : ℕ)
            → IsSome (address_by (Some class) p.kind p.sections k)
        by_class Executable other k = refl
        by_class ReadOnly other k = refl
        by_class (Tls true) other k = refl
        by_class (Tls false) other k = absurd (other refl)
        by_class (Writable true) other k = refl
        by_class (Writable false) other k = refl

-- ---- the classes themselves

pub page_multiple : (n : ℕ) → IsMultiple (page_up n) 4096
unfolding page_up
page_multiple n = round_up-multiple n 4096 (omega arith)

base_multiple : (kind : ImageKind) → IsMultiple (base_of kind) 4096
base_multiple Exe = (1024, refl)
base_multiple Pie = (0, refl)
base_multiple Start = (0, refl)
base_multiple Late = (0, refl)

pub classes_follow : (p : Layout) → ClassesFollow p
unfolding room
classes_follow p =
    let w = ascend p.kind p.sections in
    let r = rise p.kind p.sections in
    record {
      first = r.base;
      pages = pages r;
      rise = up r;
      second = w.second;
      third = w.third;
      fourth = w.fourth;
      last = page_up-above (zero_data p.kind p.sections).end;
      room_page = page_multiple (zero_data p.kind p.sections).end;
    }
  where
    pages : Rise p.kind p.sections → (class : SectionClass) → IsMultiple (extent_for class p).start 4096
    pages r Executable = rw r.base (base_multiple p.kind)
    pages r ReadOnly = rw r.constants (page_multiple (executable p.kind p.sections).end)
    pages r (Tls initial) = rw r.image (page_multiple (read_only p.kind p.sections).end)
    pages r (Writable initial) = rw r.written (page_multiple (tls_image p.kind p.sections).end)

    up : Rise p.kind p.sections → (class : SectionClass) → (extent_for class p).start ≤ (extent_for class p).end
    up r Executable = r.executable_up
    up r ReadOnly = r.read_only_up
    up r (Tls initial) = r.tls_up
    up r (Writable initial) = omega arith
