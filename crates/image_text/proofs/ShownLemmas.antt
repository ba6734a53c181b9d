-- The steps of the loops that write a line for each of a list: the text so far is that of the front of the list.
use Rattle.std.proofs.Common.{◌≡◌, ◌∙◌, ℕ, zero, suc, ◌+◌, ◌-◌, ◌≤◌, List, [], ◌∷◌, ◌++◌, length, take, drop, Some}
use Rattle.std.proofs.Common.{None, refl, sym, ap, append_assoc, append-nil, length-drop, arith}
use Rattle.std.specs.Prelude.{option_to_list}
use Rattle.std.specs.List.{flat_map, slice_get, zip}
use Rattle.std.proofs.lemmas.List.{take_all}
use Rattle.std.proofs.lemmas.Slice.Zip.{length-zip}
use Rattle.std.proofs.lemmas.List.Concat.{flat_map-append}

-- the front of a list and what stands behind it, if anything
take_one : {X : Type 0} (xs : List X) (i : ℕ) → take (suc i) xs ≡ take i xs ++ option_to_list (slice_get xs i)
take_one [] zero = refl
take_one [] (suc i) = refl
take_one (x ∷ xs) zero = refl
take_one (x ∷ xs) (suc i) = ap (λ l. x ∷ l) (take_one xs i)

-- one more of the list
pub one_more : {X : Type 0} (f : X → List ℕ) (xs : List X) (i : ℕ) (before now next : List ℕ)
    → next ≡ now ++ flat_map f (option_to_list (slice_get xs i)) → now ≡ before ++ flat_map f (take i xs)
    → next ≡ before ++ flat_map f (take (i + 1) xs)
one_more f xs i before now next e inv =
    let on : suc i ≡ i + 1 = omega arith in
    let long : flat_map f (take (i + 1) xs) ≡ flat_map f (take i xs) ++ flat_map f (option_to_list (slice_get xs i)) =
    ap (λ n. flat_map f (take n xs)) (sym on) ∙ ap (flat_map f) (take_one xs i)
    ∙ flat_map-append f (take i xs) (option_to_list (slice_get xs i)) in
    e ∙ ap (λ l. l ++ flat_map f (option_to_list (slice_get xs i))) inv
    ∙ append_assoc before (flat_map f (take i xs)) (flat_map f (option_to_list (slice_get xs i)))
    ∙ ap (λ l. before ++ l) (sym long)

-- a list without its first
behind_first : {X : Type 0} (xs : List X) (i : ℕ) → 1 ≤ i → slice_get (drop 1 xs) (i - 1) ≡ slice_get xs i
behind_first xs zero h = absurd (omega arith)
behind_first [] (suc i) h = refl
behind_first (x ∷ xs) (suc i) h = let on : suc i - 1 ≡ i = omega arith in ap (slice_get xs) on

-- one more of the list without its first
pub one_more_behind : {X : Type 0} (f : X → List ℕ) (xs : List X) (i : ℕ) (before now next : List ℕ) → 1 ≤ i
    → next ≡ now ++ flat_map f (option_to_list (slice_get xs i)) → now ≡ before ++ flat_map f (take (i - 1) (drop 1 xs))
    → next ≡ before ++ flat_map f (take (i + 1 - 1) (drop 1 xs))
one_more_behind f xs i before now next low e inv =
    let on : i - 1 + 1 ≡ i + 1 - 1 = omega arith in
    one_more f (drop 1 xs) (i - 1) before now next
    (e ∙ ap (λ o. now ++ flat_map f (option_to_list o)) (sym (behind_first xs i low))) inv
    ∙ ap (λ n. before ++ flat_map f (take n (drop 1 xs))) on

-- the whole list without its first
pub all_behind : {X Y : Type 0} (f : X × Y → List ℕ) (xs : List X) (ys : List Y) (i : ℕ) (before now : List ℕ)
    → length xs ≤ i
    → now ≡ before ++ flat_map f (take (i - 1) (drop 1 (zip xs ys))) → now ≡ before ++ flat_map f (drop 1 (zip xs ys))
all_behind f xs ys i before now past inv =
    let short : length (drop 1 (zip xs ys)) ≤ i - 1 = omega (arith, length-drop 1 (zip xs ys), length-zip xs ys) in
    inv ∙ ap (λ l. before ++ flat_map f l) (take_all (i - 1) (drop 1 (zip xs ys)) short)

-- what stands in pairs
pub paired : {X Y : Type 0} (xs : List X) (ys : List Y) (i : ℕ) (x : X) (y : Y) → Some x ≡ slice_get xs i
    → Some y ≡ slice_get ys i
    → slice_get (zip xs ys) i ≡ Some (x, y)
paired [] ys i x y left right = absurd (cc left)
paired (a ∷ xs) [] i x y left right = absurd (cc right)
paired (a ∷ xs) (b ∷ ys) zero x y left right = cc
paired (a ∷ xs) (b ∷ ys) (suc i) x y left right = paired xs ys i x y left right

-- no pair where the first list has nothing
pub no_first : {X Y : Type 0} (xs : List X) (ys : List Y) (i : ℕ) → None ≡ slice_get xs i
    → slice_get (zip xs ys) i ≡ None
no_first [] ys i none = refl
no_first (a ∷ xs) [] i none = refl
no_first (a ∷ xs) (b ∷ ys) zero none = absurd (cc none)
no_first (a ∷ xs) (b ∷ ys) (suc i) none = no_first xs ys i none

-- no pair where the second list has nothing
pub no_second : {X Y : Type 0} (xs : List X) (ys : List Y) (i : ℕ) → None ≡ slice_get ys i
    → slice_get (zip xs ys) i ≡ None
no_second [] ys i none = refl
no_second (a ∷ xs) [] i none = refl
no_second (a ∷ xs) (b ∷ ys) zero none = absurd (cc none)
no_second (a ∷ xs) (b ∷ ys) (suc i) none = no_second xs ys i none

-- the line of one that is there
pub one_line : {X : Type 0} (f : X → List ℕ) (xs : List X) (i : ℕ) (x : X) (now : List ℕ) → slice_get xs i ≡ Some x
    → now ++ f x ≡ now ++ flat_map f (option_to_list (slice_get xs i))
one_line f xs i x now is = ap (λ l. now ++ l) (sym (append-nil (f x)))
    ∙ ap (λ o. now ++ flat_map f (option_to_list o)) (sym is)

-- no line where nothing is
pub no_line : {X : Type 0} (f : X → List ℕ) (xs : List X) (i : ℕ) (now : List ℕ) → slice_get xs i ≡ None
    → now ≡ now ++ flat_map f (option_to_list (slice_get xs i))
no_line f xs i now is = sym (append-nil now) ∙ ap (λ o. now ++ flat_map f (option_to_list o)) (sym is)
