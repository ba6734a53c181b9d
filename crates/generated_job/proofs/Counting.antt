-- Lists that a loop makes for each number from 1 on.
use Rattle.std.proofs.Common.{◌≡◌, ℕ, zero, suc, ◌+◌, ◌*◌, ◌%◌, ◌^◌, List, [], ◌∷◌, ◌++◌, refl, sym, ap, ◌∙◌, arith}
use Rattle.std.specs.List.{flat_map, range_with_len}
use Rattle.std.proofs.lemmas.List.{flat_map_more}
use Rattle.generated_job.specs.Generated.{value_of}

-- one number more
range_more : (a n : ℕ) → range_with_len a (n + 1) ≡ range_with_len a n ++ (a + n) ∷ []
range_more a zero = let same : a ≡ a + 0 = omega arith in ap (λ k. k ∷ []) same
range_more a (suc n) =
    let next : suc n + 1 ≡ suc (n + 1) = omega arith in
    let last : a + 1 + n ≡ a + suc n = omega arith in
    ap (range_with_len a) next
    ∙ ap (λ ks. a ∷ ks) (range_more (a + 1) n ∙ ap (λ k. range_with_len (a + 1) n ++ k ∷ []) last)

-- what is appended for the number behind n
pub line_more : (f : ℕ → List ℕ) (start before after line : List ℕ) (n : ℕ)
    → before ≡ start ++ flat_map f (range_with_len 1 n)
    → after ≡ before ++ line → line ≡ f (n + 1) → after ≡ start ++ flat_map f (range_with_len 1 (n + 1))
line_more f start before after line n b a l =
    let next : n + 1 ≡ 1 + n = omega arith in
    a ∙ ap (λ z. z ++ line) b ∙ ap (λ z. (start ++ flat_map f (range_with_len 1 n)) ++ z) (l ∙ ap f next)
    ∙ flat_map_more f start (range_with_len 1 n) (1 + n) ∙ ap (λ z. start ++ flat_map f z) (sym (range_more 1 n))

pub next_value : (n k : ℕ) → value_of n (k + 1) ≡ (5 * value_of n k + 3) % 2 ^ 32
unfolding value_of
next_value n k = let next : k + 1 ≡ suc k = omega arith in rw next refl
