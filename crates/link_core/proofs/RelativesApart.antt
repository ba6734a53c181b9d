-- Relocations of 8 bytes that share no byte rise once they are sorted by place.
use Rattle.std.proofs.Common.{◌≡◌, ◌+◌, ◌<◌, ◌≤◌, ◌⊎◌, ℕ, zero, suc, Bool, true, false, List, [], ◌∷◌, ◌++◌}
use Rattle.std.proofs.Common.{inl, inr, refl, arith}
use Rattle.std.specs.Prelude.{nat_le, if◌then◌else◌}
use Rattle.std.specs.List.{All, flat_map, range_with_len}
use Rattle.std.proofs.lemmas.Bool.{leb-false, leb-true}
use Rattle.std.proofs.lemmas.List.Elements.{All-cons, All-head, All-tail, All-append, All-weaker}
use Rattle.dynamic_symbols.proofs.Lists.{all_flat_range}
use Rattle.image_faults.specs.declared.loader_kind.LoaderKind.TheVariants.{Relative}
use Rattle.image_file.specs.declared.relocation.ImageRelocation.{ImageRelocation}
use Rattle.image_writer.specs.Linkable.{AreRising, width}
use Rattle.link_needs.specs.Needs.{inserted, sorted_by}

-- one writes before the other
abbrev pub IsApart : ImageRelocation → ImageRelocation → Type 0
IsApart x y = (x.place + 8 ≤ y.place) ⊎ (y.place + 8 ≤ x.place)

-- each is apart from all others
abbrev pub AreApart : List ImageRelocation → Type 0
AreApart [] = Unit {0}
AreApart (x ∷ more) = All (IsApart x) more × AreApart more

-- they lie behind each other, from a place on
abbrev pub RiseFrom : ℕ → List ImageRelocation → Type 0
RiseFrom n [] = Unit {0}
RiseFrom n (x ∷ more) = (n ≤ x.place) × RiseFrom (x.place + 8) more

-- ** sorting

module _ {X : Type 0} (number : X → ℕ) (P : X → Type 0) where
  all_inserted : (x : X) (xs : List X) → P x → All P xs → All P (inserted number x xs)
  all_inserted x [] here all = All-cons P x [] here all
  all_inserted x (y ∷ more) here all =
      of_test (nat_le (number x) (number y)) (all_inserted x more here (All-tail P y more all))
    where
      of_test : (t : Bool) → All P (inserted number x more)
          → All P (if t then x ∷ (y ∷ more) else y ∷ inserted number x more)
      of_test true rest = All-cons P x (y ∷ more) here all
      of_test false rest = All-cons P y (inserted number x more) (All-head P y more all) rest

  -- what holds of all holds of them in order
  pub all_sorted : (xs : List X) → All P xs → All P (sorted_by number xs)
  all_sorted [] all = all
  all_sorted (x ∷ more) all =
      all_inserted x (sorted_by number more) (All-head P x more all) (all_sorted more (All-tail P x more all))

rise_inserted : (n : ℕ) (x : ImageRelocation) (xs : List ImageRelocation) → n ≤ x.place → All (IsApart x) xs
    → RiseFrom n xs → RiseFrom n (inserted (λ r. r.place) x xs)
rise_inserted n x [] low apart rises = (low, tt)
rise_inserted n x (y ∷ more) low apart rises =
    of_test (nat_le x.place y.place) refl (All-head (IsApart x) y more apart)
    (λ behind. rise_inserted (y.place + 8) x more behind (All-tail (IsApart x) y more apart) rises.1)
  where
    of_test : (t : Bool) → nat_le x.place y.place ≡ t → IsApart x y
        → (y.place + 8 ≤ x.place → RiseFrom (y.place + 8) (inserted (λ r. r.place) x more))
        → RiseFrom n (if t then x ∷ (y ∷ more) else y ∷ inserted (λ r. r.place) x more)
    of_test true e (inl before) rest = (low, (before, rises.1))
    of_test true e (inr behind) rest = absurd (omega (arith, leb-true x.place y.place e))
    of_test false e (inl before) rest = absurd (omega (arith, leb-false x.place y.place e))
    of_test false e (inr behind) rest = (rises.0, rest behind)

-- sorted by place they lie behind each other
pub sorted_rise : (xs : List ImageRelocation) → AreApart xs → RiseFrom 0 (sorted_by (λ r. r.place) xs)
sorted_rise [] apart = tt
sorted_rise (x ∷ more) apart =
    rise_inserted 0 x (sorted_by (λ r. r.place) more) (omega arith)
    (all_sorted (λ r. r.place) (IsApart x) more apart.0) (sorted_rise more apart.1)

-- ** as a loader wants them

-- a relocation of a field
abbrev pub IsRelative : ImageRelocation → Type 0
IsRelative r = r.kind ≡ Relative

-- it writes 8 bytes
pub width_of : (r : ImageRelocation) → IsRelative r → width r.kind ≡ 8
width_of r relative = rw relative refl

-- those that lie behind each other rise
pub rising_from : (n : ℕ) (xs : List ImageRelocation) → All IsRelative xs → RiseFrom n xs → AreRising xs
rising_from n [] all rises = tt
rising_from n (x ∷ []) all rises = tt
rising_from n (x ∷ (y ∷ more)) all rises = (
  rw (width_of x (All-head IsRelative x (y ∷ more) all)) rises.1.0,
  rising_from (x.place + 8) (y ∷ more) (All-tail IsRelative x (y ∷ more) all) rises.1,
)

-- so do those that end at a place, and others from there on
pub rising_append : (n : ℕ) (xs ys : List ImageRelocation) → AreRising xs → AreRising ys
    → All (λ x. x.place + width x.kind ≤ n) xs → All (λ y. n ≤ y.place) ys → AreRising (xs ++ ys)
rising_append n [] ys first next low high = next
rising_append n (x ∷ []) [] first next low high = tt
rising_append n (x ∷ []) (y ∷ more) first next low high =
    let front : x.place + width x.kind ≤ n = All-head (λ z. z.place + width z.kind ≤ n) x [] low in
    let back : n ≤ y.place = All-head (λ z. n ≤ z.place) y more high in
    (omega arith, next)
rising_append n (x ∷ (z ∷ more)) ys first next low high =
    let rest = All-tail (λ w. w.place + width w.kind ≤ n) x (z ∷ more) low in
    (first.0, rising_append n (z ∷ more) ys first.1 next rest high)

-- ** lists that are joined

-- two lists whose elements are apart from each other
pub apart_append : (xs ys : List ImageRelocation) → AreApart xs → AreApart ys → All (λ x. All (IsApart x) ys) xs
    → AreApart (xs ++ ys)
apart_append [] ys first next far = next
apart_append (x ∷ more) ys first next far =
    let F : ImageRelocation → Type 0 = λ z. All (IsApart z) ys in (
      All-append (IsApart x) more ys first.0 (All-head F x more far),
      apart_append more ys first.1 next (All-tail F x more far),
    )

-- the lists of the numbers from a on: those of one number are apart, and so are those of two
module _ (P : ℕ → ImageRelocation → Type 0) (f : ℕ → List ImageRelocation)
    (far : (j k : ℕ) (x y : ImageRelocation) → j < k → P j x → P k y → IsApart x y) where
  pub apart_range : (a n : ℕ) → ((k : ℕ) → All (P k) (f k)) → ((k : ℕ) → AreApart (f k))
      → AreApart (flat_map f (range_with_len a n))
  apart_range a zero own apart = tt
  apart_range a (suc n) own apart =
      let more = flat_map f (range_with_len (a + 1) n) in
      let Q : ImageRelocation → Type 0 = λ y. (k : ℕ) × (a < k) × P k y in
      let later : All Q more =
      all_flat_range Q f (a + 1) n (λ k low high.
      All-weaker (P k) Q (λ y h. (k, omega (arith, low), h)) (f k) (own k)) in
      apart_append (f a) more (apart a) (apart_range (a + 1) n own apart)
      (All-weaker (P a) (λ x. All (IsApart x) more)
      (λ x here. All-weaker Q (IsApart x) (λ y there. far a there.0 x y there.1 here there.2) more later)
      (f a) (own a))
