-- Lists side by side, and an element of a list that is replaced.
use Rattle.std.proofs.Common.{◌≡◌, ◌+◌, ◌++◌, ℕ, zero, suc, List, [], ◌∷◌, length, map, take, drop, Some, None, refl}
use Rattle.std.proofs.Common.{sym, ap, subst, ◌∙◌, append-nil, append_assoc, replicate, arith}
use Rattle.std.specs.Prelude.{slice_get, slice_set}
use Rattle.thread_blocks.specs.Turns.{enough, finishing}

module _ {X : Type 0} where
  -- ---- an element that is there

  pub at_drop : (xs : List X) (k : ℕ) (x : X) → slice_get xs k ≡ Some x → drop k xs ≡ x ∷ drop (suc k) xs
  at_drop [] k x at = absurd cc
  at_drop (y ∷ xs) zero x at = let same : y ≡ x = cc in ap (λ z. z ∷ xs) same
  at_drop (y ∷ xs) (suc k) x at = at_drop xs k x at

  pub none_drop : (xs : List X) (k : ℕ) → slice_get xs k ≡ None → drop k xs ≡ []
  none_drop [] zero none = refl
  none_drop [] (suc k) none = refl
  none_drop (y ∷ xs) zero none = absurd cc
  none_drop (y ∷ xs) (suc k) none = none_drop xs k none

  -- ---- in its place another

  pub set_same : (xs : List X) (k : ℕ) (x : X) → slice_get xs k ≡ Some x → slice_set xs k x ≡ xs
  set_same [] k x at = refl
  set_same (y ∷ xs) zero x at = let same : y ≡ x = cc in ap (λ z. z ∷ xs) (sym same)
  set_same (y ∷ xs) (suc k) x at = ap (λ ys. y ∷ ys) (set_same xs k x at)

  pub set-length : (xs : List X) (k : ℕ) (x : X) → length (slice_set xs k x) ≡ length xs
  set-length [] k x = refl
  set-length (y ∷ xs) zero x = refl
  set-length (y ∷ xs) (suc k) x = ap suc (set-length xs k x)

module _ {X Y : Type 0} where
  -- of two lists as long as each other
  pub beside : (xs : List X) (ys : List Y) (k : ℕ) (x : X) → length xs ≡ length ys → slice_get xs k ≡ Some x
      → (y : Y) × (slice_get ys k ≡ Some y)
  beside [] ys k x long at = absurd cc
  beside (a ∷ xs) [] k x long at = absurd (omega (arith, long))
  beside (a ∷ xs) (b ∷ ys) zero x long at = (b, refl)
  beside (a ∷ xs) (b ∷ ys) (suc k) x long at = beside xs ys k x (omega (arith, long)) at

  pub none_beside : (xs : List X) (ys : List Y) (k : ℕ) → length xs ≡ length ys → slice_get xs k ≡ None
      → slice_get ys k ≡ None
  none_beside [] [] k long none = refl
  none_beside [] (b ∷ ys) k long none = absurd (omega (arith, long))
  none_beside (a ∷ xs) [] k long none = refl
  none_beside (a ∷ xs) (b ∷ ys) zero long none = absurd cc
  none_beside (a ∷ xs) (b ∷ ys) (suc k) long none = none_beside xs ys k (omega (arith, long)) none

  -- what is true of each pair stays so where one pair is replaced by another of which it is true
  pub each_set : (P : ℕ → X → Y → Type 0) (xs : List X) (ys : List Y) (k : ℕ) (a : X) (b : Y) → P k a b
      → ((j : ℕ) (x : X) (y : Y) → slice_get xs j ≡ Some x → slice_get ys j ≡ Some y → P j x y)
      → (j : ℕ) (x : X) (y : Y) → slice_get (slice_set xs k a) j ≡ Some x → slice_get (slice_set ys k b) j ≡ Some y
      → P j x y
  each_set P [] ys k a b new each j x y at_x at_y = absurd cc
  each_set P (u ∷ xs) [] k a b new each j x y at_x at_y = absurd cc
  each_set P (u ∷ xs) (v ∷ ys) zero a b new each zero x y at_x at_y =
      let same_x : a ≡ x = cc in
      let same_y : b ≡ y = cc in
      subst (λ z. P zero z y) same_x (subst (λ z. P zero a z) same_y new)
  each_set P (u ∷ xs) (v ∷ ys) zero a b new each (suc j) x y at_x at_y = each (suc j) x y at_x at_y
  each_set P (u ∷ xs) (v ∷ ys) (suc k) a b new each zero x y at_x at_y = each zero x y at_x at_y
  each_set P (u ∷ xs) (v ∷ ys) (suc k) a b new each (suc j) x y at_x at_y =
      each_set (λ n. P (suc n)) xs ys k a b new (λ n. each (suc n)) j x y at_x at_y

  pub same_images : {Z : Type 0} (f : X → Z) (g : Y → Z) (xs : List X) (ys : List Y) → length xs ≡ length ys
      → ((k : ℕ) (x : X) (y : Y) → slice_get xs k ≡ Some x → slice_get ys k ≡ Some y → f x ≡ g y)
      → map f xs ≡ map g ys
  same_images f g [] [] long each = refl
  same_images f g [] (y ∷ ys) long each = absurd (omega (arith, long))
  same_images f g (x ∷ xs) [] long each = absurd (omega (arith, long))
  same_images f g (x ∷ xs) (y ∷ ys) long each =
      rw (each zero x y refl refl, same_images f g xs ys (omega (arith, long)) (λ k. each (suc k))) refl

-- one thread more that is brought to its end
pub finishing_more : {X : Type 0} (fuel thread : ℕ) (all : List (List X)) (k : ℕ) (own : List X)
    → slice_get all k ≡ Some own
    → finishing fuel thread (take (suc k) all)
    ≡ finishing fuel thread (take k all) ++ replicate (enough fuel (length own)) (thread + k)
finishing_more fuel thread [] k own at = absurd cc
finishing_more fuel thread (first ∷ all) zero own at =
    let same : first ≡ own = cc in
    let sum : thread ≡ thread + 0 = omega arith in
    append-nil (replicate (enough fuel (length first)) thread)
    ∙ ap (λ xs. replicate (enough fuel (length xs)) thread) same
    ∙ ap (λ n. replicate (enough fuel (length own)) n) sum
finishing_more fuel thread (first ∷ all) (suc k) own at =
    let sum : suc thread + k ≡ thread + suc k = omega arith in
    ap (λ xs. replicate (enough fuel (length first)) thread ++ xs)
    (finishing_more fuel (suc thread) all k own at
    ∙ ap (λ n. finishing fuel (suc thread) (take k all) ++ replicate (enough fuel (length own)) n) sum)
    ∙ sym (append_assoc (replicate (enough fuel (length first)) thread) (finishing fuel (suc thread) (take k all))
    (replicate (enough fuel (length own)) (thread + suc k)))

-- what is true of each element, and of one that is put behind them
pub each_push : {X : Type 0} (P : ℕ → X → Type 0) (xs : List X) (x : X)
    → ((k : ℕ) (y : X) → slice_get xs k ≡ Some y → P k y) → P (length xs) x
    → (k : ℕ) (y : X) → slice_get (xs ++ x ∷ []) k ≡ Some y → P k y
each_push P [] x each new zero y at = let same : x ≡ y = cc in subst (λ z. P zero z) same new
each_push P [] x each new (suc k) y at = absurd cc
each_push P (a ∷ xs) x each new zero y at = each zero y at
each_push P (a ∷ xs) x each new (suc k) y at = each_push (λ n. P (suc n)) xs x (λ n. each (suc n)) new k y at
