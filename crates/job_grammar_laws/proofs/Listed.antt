-- The images of a job, in the order in which a text names them.
use Rattle.std.proofs.Common.{◌≡◌, ◌≢◌, ◌∙◌, ℕ, zero, suc, ◌<◌, Bool, true, false, ◌==◌, cond, List, [], ◌∷◌}
use Rattle.std.proofs.Common.{◌++◌, length, filter, filter_map, get_or, slice_get, Some, inl, inr, refl}
use Rattle.std.proofs.Common.{sym}
use Rattle.std.proofs.Common.{ap, subst, arith}
use Rattle.std.specs.List.{All, AllZip, Contains, cons_option}
use Rattle.std.specs.Option.{option_map_or}
use Rattle.std.proofs.lemmas.List.Elements.{All-append, All-contains_itself, All-filter}
use Rattle.std.proofs.lemmas.List.Elements.{All-head}
use Rattle.std.proofs.lemmas.List.Elements.{All-tail, All-weaker, Contains-append_left, Contains-append_right}
use Rattle.job_text.specs.Images.{IsImageNumber}
use Rattle.job_text.specs.Numbering.{at_number}
use Rattle.job_text.specs.declared.images.Image.{Image}
use Rattle.link_faults.specs.declared.image_kind.ImageKind.{ImageKind}
use Rattle.link_faults.specs.declared.image_kind.ImageKind.TheVariants.{Exe, Pie, Start, Late}
use Rattle.job_grammar_laws.specs.Derived.{HasName}
use Rattle.job_grammar_laws.specs.Grammar.{group, names, of_group}
use Rattle.job_grammar_laws.proofs.Apart.{AreApart}
use Rattle.job_grammar_laws.proofs.Jobs.{one_number}
use Rattle.job_grammar_laws.proofs.Pairs.{All-of_map}
use Rattle.job_grammar_laws.proofs.Tests.{in_or_new}

-- ** places

stands_in : {X : Type 0} (xs : List X) (i : ℕ) → i < length xs → (x : X) × (slice_get xs i ≡ Some x)
stands_in [] i inside = absurd (omega (arith, inside))
stands_in (x ∷ xs) zero inside = (x, refl)
stands_in (x ∷ xs) (suc i) inside = stands_in xs i (omega (arith, inside))

stands_at : {X : Type 0} (xs : List X) (i : ℕ) (d : X) → i < length xs → slice_get xs i ≡ Some (get_or xs i d)
stands_at [] i d inside = absurd (omega (arith, inside))
stands_at (x ∷ xs) zero d inside = refl
stands_at (x ∷ xs) (suc i) d inside = stands_at xs i d (omega (arith, inside))

stands_inside : {X : Type 0} (xs : List X) (i : ℕ) (x : X) → slice_get xs i ≡ Some x → i < length xs
stands_inside [] i x e = absurd (cc e)
stands_inside (y ∷ ys) zero x e = omega arith
stands_inside (y ∷ ys) (suc i) x e = omega (arith, stands_inside ys i x e)

pub number_stands : (images : List Image) (n : ℕ) → IsImageNumber images n → (x : Image) × (at_number images n ≡ Some x)
number_stands images zero is = absurd (omega (arith, is.0))
number_stands images (suc i) is = stands_in images i (omega (arith, is.1))

pub number_is : (images : List Image) (n : ℕ) (name : List ℕ) → HasName images n name → IsImageNumber images n
number_is images zero name has = absurd (cc has.stands)
number_is images (suc i) name has = (omega arith, omega (arith, stands_inside images i has.image has.stands))

-- the name of an image, by its number
abbrev pub name_at : List Image → ℕ → List ℕ
name_at images n = option_map_or (λ (image : Image). image.name) (at_number images n) []

pub named_at : (images : List Image) (n : ℕ) → IsImageNumber images n → HasName images n (name_at images n)
named_at images n is =
    let found = number_stands images n is in
    record {
      image = found.0;
      stands = found.1;
      named = sym (ap (λ o. option_map_or (λ (image : Image). image.name) o []) found.1);
    }

-- ** from numbers to images

pub mentions_named : (images : List Image) (ns : List ℕ) → All (IsImageNumber images) ns
    → AllZip (HasName images) ns (names (filter_map (at_number images) ns))
mentions_named images [] are = tt
mentions_named images (n ∷ ns) are =
    let found = number_stands images n (All-head (IsImageNumber images) n ns are) in
    subst (λ o. AllZip (HasName images) (n ∷ ns) (names (cons_option o (filter_map (at_number images) ns))))
    (sym found.1) (
      record { image = found.0; stands = found.1; named = refl },
      mentions_named images ns (All-tail (IsImageNumber images) n ns are),
    )

abbrev Stands : List Image → Image → Type 0
Stands images x = (k : ℕ) × (at_number images k ≡ Some x)

named_found : (images : List Image) → AreApart images → (ns : List ℕ) (xs : List Image)
    → AllZip (HasName images) ns (names xs) → All (Stands images) xs → filter_map (at_number images) ns ≡ xs
named_found images are [] [] zip there = refl
named_found images are [] (x ∷ xs) zip there = absurd zip
named_found images are (n ∷ ns) [] zip there = absurd zip
named_found images are (n ∷ ns) (x ∷ xs) zip there =
    let own = All-head (Stands images) x xs there in
    let same : n ≡ own.0 = one_number images are n own.0 x.name zip.0
    (record { image = x; stands = own.1; named = refl }) in
    ap (λ o. cons_option o (filter_map (at_number images) ns))
    (ap (at_number images) same ∙ own.1)
    ∙ ap (λ rest. x ∷ rest) (named_found images are ns xs zip.1 (All-tail (Stands images) x xs there))

-- ** groups

abbrev pub in_groups : List Image → List Image
in_groups xs = of_group 0 xs ++ of_group 1 xs ++ of_group 2 xs

contains_more : {X : Type 0} (xs : List X) (y x : X) → Contains xs x → Contains (y ∷ xs) x
contains_more xs y x there = (suc there.0, omega (arith, there.1), there.2)

contains_filter : {X : Type 0} (p : X → Bool) (xs : List X) (x : X) → p x ≡ true → Contains xs x → Contains
    (filter p xs) x
contains_filter p [] x is there = absurd (omega (arith, there.1))
contains_filter p (y ∷ ys) x is (zero, inside, same) =
    subst (λ t. Contains (cond t (y ∷ filter p ys) (filter p ys)) x) (sym (ap p same ∙ is)) (0, omega arith, same)
contains_filter p (y ∷ ys) x is (suc k, inside, same) =
    by (p y) (contains_filter p ys x is (k, omega (arith, inside), same))
  where
    by : (t : Bool) → Contains (filter p ys) x → Contains (cond t (y ∷ filter p ys) (filter p ys)) x
    by true there = contains_more (filter p ys) y x there
    by false there = there

in_its_group : (k : ImageKind) (xs : List Image) (x : Image) → x.kind ≡ k → Contains xs x → Contains (in_groups xs) x
in_its_group Exe xs x is there =
    Contains-append_left (of_group 0 xs ++ of_group 1 xs) (of_group 2 xs) x
    (Contains-append_left (of_group 0 xs) (of_group 1 xs) x
    (contains_filter (λ (image : Image). group image.kind == 0) xs x (ap (λ k. group k == 0) is) there))
in_its_group Pie xs x is there =
    Contains-append_left (of_group 0 xs ++ of_group 1 xs) (of_group 2 xs) x
    (Contains-append_left (of_group 0 xs) (of_group 1 xs) x
    (contains_filter (λ (image : Image). group image.kind == 0) xs x (ap (λ k. group k == 0) is) there))
in_its_group Start xs x is there =
    Contains-append_left (of_group 0 xs ++ of_group 1 xs) (of_group 2 xs) x
    (Contains-append_right (of_group 0 xs) (of_group 1 xs) x
    (contains_filter (λ (image : Image). group image.kind == 1) xs x (ap (λ k. group k == 1) is) there))
in_its_group Late xs x is there =
    Contains-append_right (of_group 0 xs ++ of_group 1 xs) (of_group 2 xs) x
    (contains_filter (λ (image : Image). group image.kind == 2) xs x (ap (λ k. group k == 2) is) there)

stands_there : (images : List Image) (x : Image) → Contains images x → Stands images x
stands_there images x there =
    (suc there.0, stands_at images there.0 x there.1 ∙ ap Some there.2)

-- the images that are mentioned are those that were told
pub mentioned_told : (images ys : List Image) (ns : List ℕ) → AreApart images
    → images ≡ of_group 0 ys ++ of_group 1 ys ++ of_group 2 ys → AllZip (HasName images) ns (names ys)
    → filter_map (at_number images) ns ≡ ys
mentioned_told images ys ns are e zip =
    named_found images are ns ys zip
    (All-weaker (Contains ys) (Stands images)
    (λ x there. stands_there images x (subst (λ (all : List Image). Contains all x) (sym e)
    (in_its_group x.kind ys x refl there))) ys (All-contains_itself ys))

-- a name that an image has is one of those that are mentioned
pub name_mentioned : (images ys : List Image) (n : ℕ) → images ≡ of_group 0 ys ++ of_group 1 ys ++ of_group 2 ys
    → IsImageNumber images n → Contains (names ys) (name_at images n)
name_mentioned images ys n e is = elim (in_or_new (name_at images n) (names ys)) [
  | inl there ↦ there
  | inr new ↦
      let has = named_at images n is in
      let unlike : All (λ (x : Image). x.name ≢ name_at images n) ys =
      All-of_map (λ (other : List ℕ). other ≢ name_at images n) (λ (x : Image). x.name) ys new in
      let all : All (λ (x : Image). x.name ≢ name_at images n) images =
      subst (All (λ (x : Image). x.name ≢ name_at images n)) (sym e)
      (All-append (λ (x : Image). x.name ≢ name_at images n) (of_group 0 ys ++ of_group 1 ys) (of_group 2 ys)
      (All-append (λ (x : Image). x.name ≢ name_at images n) (of_group 0 ys) (of_group 1 ys)
      (All-filter (λ (x : Image). group x.kind == 0) (λ (x : Image). x.name ≢ name_at images n) ys unlike)
      (All-filter (λ (x : Image). group x.kind == 1) (λ (x : Image). x.name ≢ name_at images n) ys unlike))
      (All-filter (λ (x : Image). group x.kind == 2) (λ (x : Image). x.name ≢ name_at images n) ys unlike)) in
      absurd (found images n has.image all has.stands has.named)
]
  where
    held : (P : Image → Type 0) (xs : List Image) (i : ℕ) (x : Image) → All P xs → slice_get xs i ≡ Some x → P x
    held P [] i x are e = absurd (cc e)
    held P (y ∷ ys) zero x are e = subst P (some_same y x e) (All-head P y ys are)
      where
        some_same : (a b : Image) → Some a ≡ Some b → a ≡ b
        some_same a b e = cc
    held P (y ∷ ys) (suc i) x are e = held P ys i x (All-tail P y ys are) e

    found : (xs : List Image) (m : ℕ) (x : Image) → All (λ (y : Image). y.name ≢ name_at images n) xs
        → at_number xs m ≡ Some x → x.name ≡ name_at images n → ⊥
    found xs zero x are e same = absurd (cc e)
    found xs (suc i) x are e same = held (λ (y : Image). y.name ≢ name_at images n) xs i x are e same
