-- Lists of which a relation holds place by place.
use Rattle.std.proofs.Common.{◌≡◌, ◌∙◌, ℕ, zero, suc, ◌+◌, List, [], ◌∷◌, ◌++◌}
use Rattle.std.proofs.Common.{length, map, replicate, get_or, refl, ap, length-append}
use Rattle.std.proofs.lemmas.List.{length-replicate}
use Rattle.std.specs.List.{All, AllZip}
use Rattle.std.proofs.lemmas.List.Elements.{All-cons, All-head, All-nil, All-tail}

module _ {A B : Type 0} (R : A → B → Type 0) where
  pub AllZip-more : (xs : List A) (ys : List B) (x : A) (y : B) → AllZip R xs ys → R x y
      → AllZip R (xs ++ x ∷ []) (ys ++ y ∷ [])
  AllZip-more [] [] x y are is = (is, tt)
  AllZip-more [] (b ∷ ys) x y are is = absurd are
  AllZip-more (a ∷ xs) [] x y are is = absurd are
  AllZip-more (a ∷ xs) (b ∷ ys) x y are is = (are.0, AllZip-more xs ys x y are.1 is)

  pub AllZip-weaker : (Q : A → B → Type 0) → ((x : A) (y : B) → R x y → Q x y) → (xs : List A) (ys : List B)
      → AllZip R xs ys → AllZip Q xs ys
  AllZip-weaker Q keep [] [] are = tt
  AllZip-weaker Q keep [] (y ∷ ys) are = absurd are
  AllZip-weaker Q keep (x ∷ xs) [] are = absurd are
  AllZip-weaker Q keep (x ∷ xs) (y ∷ ys) are = (keep x y are.0, AllZip-weaker Q keep xs ys are.1)

  pub AllZip-map : {C : Type 0} (f : C → A) (xs : List C) (ys : List B) → AllZip (λ x y. R (f x) y) xs ys
      → AllZip R (map f xs) ys
  AllZip-map f [] [] are = tt
  AllZip-map f [] (y ∷ ys) are = absurd are
  AllZip-map f (x ∷ xs) [] are = absurd are
  AllZip-map f (x ∷ xs) (y ∷ ys) are = (are.0, AllZip-map f xs ys are.1)

  pub AllZip-length : (xs : List A) (ys : List B) → AllZip R xs ys → length xs ≡ length ys
  AllZip-length [] [] are = refl
  AllZip-length [] (y ∷ ys) are = absurd are
  AllZip-length (x ∷ xs) [] are = absurd are
  AllZip-length (x ∷ xs) (y ∷ ys) are = ap suc (AllZip-length xs ys are.1)

  -- what holds of each thing of the second list for a reason that the first gives
  pub AllZip-all : (P : B → Type 0) → ((x : A) (y : B) → R x y → P y) → (xs : List A) (ys : List B) → AllZip R xs ys
      → All P ys
  AllZip-all P why [] [] are = All-nil P
  AllZip-all P why [] (y ∷ ys) are = absurd are
  AllZip-all P why (x ∷ xs) [] are = absurd are
  AllZip-all P why (x ∷ xs) (y ∷ ys) are = All-cons P y ys (why x y are.0) (AllZip-all P why xs ys are.1)

  -- a relation that holds of one thing only
  pub AllZip-only : ((x other : A) (y : B) → R x y → R other y → x ≡ other) → (xs others : List A) (ys : List B)
      → AllZip R xs ys → AllZip R others ys → xs ≡ others
  AllZip-only only [] [] [] are those = refl
  AllZip-only only [] (x ∷ others) [] are those = absurd those
  AllZip-only only (x ∷ xs) others [] are those = absurd are
  AllZip-only only [] others (y ∷ ys) are those = absurd are
  AllZip-only only (x ∷ xs) [] (y ∷ ys) are those = absurd those
  AllZip-only only (x ∷ xs) (other ∷ others) (y ∷ ys) are those =
      (λ i. only x other y are.0 those.0 i ∷ AllZip-only only xs others ys are.1 those.1 i)

pub All-of_map : {A B : Type 0} (P : B → Type 0) (f : A → B) (xs : List A) → All P (map f xs) → All (λ x. P (f x)) xs
All-of_map P f [] are = All-nil (λ x. P (f x))
All-of_map P f (x ∷ xs) are =
    All-cons (λ x. P (f x)) x xs (All-head P (f x) (map f xs) are)
    (All-of_map P f xs (All-tail P (f x) (map f xs) are))

-- lists of nothing behind others
pub nothing_behind : {A : Type 0} (all : List (List A)) (n i : ℕ)
    → get_or (all ++ replicate n []) i [] ≡ get_or all i []
nothing_behind [] zero i = refl
nothing_behind [] (suc n) zero = refl
nothing_behind {A = A} [] (suc n) (suc i) = nothing_behind {A = A} [] n i
nothing_behind (xs ∷ all) n zero = refl
nothing_behind (xs ∷ all) n (suc i) = nothing_behind all n i

pub nothing_more : {A : Type 0} (all : List (List A)) (n : ℕ) → length (all ++ replicate n []) ≡ length all + n
nothing_more {A = A} all n =
    length-append all (replicate n []) ∙ ap (λ k. length all + k) (length-replicate {A = List A} n [])
