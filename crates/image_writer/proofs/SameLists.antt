-- Lists of what stands at each number below another are equal where they agree at each of these numbers.
use Rattle.std.proofs.Common.{◌≡◌, ◌+◌, ◌<◌, ◌∙◌, ℕ, zero, suc, refl, ap, arith, map, subst}
use Rattle.std.specs.List.{range_with_len}
use Rattle.image_file.specs.Tabled.{tabled}

-- the same from a number on
same_from : {X : Type 0} (f g : ℕ → X) (a n : ℕ) → ((k : ℕ) → a + k < a + n → f (a + k) ≡ g (a + k))
    → map f (range_with_len a n) ≡ map g (range_with_len a n)
same_from f g a zero same = refl
same_from f g a (suc n) same =
    let here : f a ≡ g a =
    let P : ℕ → Type 0 = λ m. f m ≡ g m in
    let start : a + 0 ≡ a = omega arith in
    subst P start (same 0 (omega arith)) in
    let rest : map f (range_with_len (a + 1) n) ≡ map g (range_with_len (a + 1) n) =
    same_from f g (a + 1) n (λ k h.
    let P : ℕ → Type 0 = λ m. f m ≡ g m in
    let next : a + (k + 1) ≡ a + 1 + k = omega arith in
    subst P next (same (k + 1) (omega arith))) in
    rw (here, rest) refl

-- lists of the same length that agree at each number
pub same_tabled : {X : Type 0} (f g : ℕ → X) (m n : ℕ) → m ≡ n → ((k : ℕ) → k < n → f k ≡ g k) → tabled f m ≡ tabled g n
unfolding tabled
same_tabled f g m n long same =
    ap (λ l. map f (range_with_len 0 l)) long
    ∙ same_from f g 0 n (λ k h.
    let P : ℕ → Type 0 = λ j. f j ≡ g j in
    let start : k ≡ 0 + k = omega arith in
    subst P start (same k (omega arith)))
