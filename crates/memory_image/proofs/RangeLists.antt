-- Lists by the numbers of a range, and the first number of a range that passes a test.
use Rattle.std.proofs.Common.{◌≡◌, ◌<◌, ◌≤◌, ◌+◌, ℕ, zero, suc, ◌∷◌, ◌++◌, Bool, true, false, None, Some, refl, sym, ap}
use Rattle.std.proofs.Common.{◌∙◌, arith, map, replicate}
use Rattle.std.specs.List.{find, range_with_len}

-- two functions that agree place by place
pub map_same : {A : Type 0} (f g : ℕ → A) (a b n : ℕ) → ((k x y : ℕ) → k < n → x ≡ a + k → y ≡ b + k → f x ≡ g y)
    → map f (range_with_len a n) ≡ map g (range_with_len b n)
map_same f g a b zero same = refl
map_same f g a b (suc n) same =
    let first : f a ≡ g b = same 0 a b (omega arith) (omega arith) (omega arith) in
    let rest = map_same f g (a + 1) (b + 1) n
    (λ k x y below at to. same (k + 1) x y (omega arith) (omega arith) (omega arith)) in
    cc

-- n numbers, and m that follow
pub map_more : {A : Type 0} (f : ℕ → A) (a b n m : ℕ) → b ≡ a + n
    → map f (range_with_len a (n + m)) ≡ map f (range_with_len a n) ++ map f (range_with_len b m)
map_more f a b zero m e =
    let here : b ≡ a = omega arith in
    let none : 0 + m ≡ m = omega arith in
    rw (here, none) refl
map_more f a b (suc n) m e =
    let long : suc n + m ≡ suc (n + m) = omega arith in
    rw long (ap (λ l. f a ∷ l) (map_more f (a + 1) b n m (omega arith)))

pub map_constant : {A : Type 0} (f : ℕ → A) (c : A) (a n : ℕ) → ((x : ℕ) → a ≤ x → x < a + n → f x ≡ c)
    → map f (range_with_len a n) ≡ replicate n c
map_constant f c a zero same = refl
map_constant f c a (suc n) same =
    let first : f a ≡ c = same a (omega arith) (omega arith) in
    let rest = map_constant f c (a + 1) n (λ x above below. same x (omega arith) (omega arith)) in
    cc

-- no number passes the test
pub find_none : (p : ℕ → Bool) (a n : ℕ) → ((x : ℕ) → a ≤ x → x < a + n → p x ≡ false)
    → find p (range_with_len a n) ≡ None
find_none p a zero none = refl
find_none p a (suc n) none =
    rw (none a (omega arith) (omega arith))
    (find_none p (a + 1) n (λ x above below. none x (omega arith) (omega arith)))

-- one does, and no other
pub find_one : (p : ℕ → Bool) (a n s : ℕ) → a ≤ s → s < a + n → p s ≡ true
    → ((x : ℕ) → a ≤ x → x < a + n → p x ≡ true → x ≡ s)
    → find p (range_with_len a n) ≡ Some s
find_one p a zero s above below passes one = absurd (omega arith)
find_one p a (suc n) s above below passes one =
    by_first (p a) refl (λ after. find_one p (a + 1) n s (omega arith) (omega arith) passes
    (λ x lo hi is. one x (omega arith) (omega arith) is))
  where
    impossible : true ≡ false → ⊥
    impossible h = cc

    not_here : p a ≡ false → a ≡ s → ⊥
    not_here e same = impossible (sym passes ∙ ap p (sym same) ∙ e)

    by_first : (first : Bool) → p a ≡ first → (a < s → find p (range_with_len (a + 1) n) ≡ Some s)
        → find p (range_with_len a (suc n)) ≡ Some s
    by_first true e rest = rw e (ap Some (one a (omega arith) (omega arith) e))
    by_first false e rest = let other : a ≡ s → ⊥ = not_here e in rw e (rest (omega arith))
