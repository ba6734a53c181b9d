-- The first number of those that are left.
use Rattle.std.proofs.Common.{◌≡◌, ◌∙◌, ◌<◌, ◌≤◌, ℕ, suc, ◌+◌, ◌-◌, Bool, true, false, cond, Option, Some, None, refl}
use Rattle.std.proofs.Common.{sym, ap, arith}
use Rattle.std.specs.List.{find, range_with_len}

module _ (p : ℕ → Bool) (a n : ℕ) where
  -- it is the next one, or one behind it
  next : a < n → find p (range_with_len a (n - a)) ≡ cond (p a) (Some a) (find p (range_with_len (a + 1) (n - (a + 1))))
  next lt = let e : n - a ≡ suc (n - (a + 1)) = omega (arith, lt) in ap (λ k. find p (range_with_len a k)) e

  pub found_here : (r : Option ℕ) → a < n → p a ≡ true → find p (range_with_len a (n - a)) ≡ r → Some a ≡ r
  found_here r lt is same = sym (next lt ∙ rw is refl) ∙ same

  pub found_on : (r : Option ℕ) → a < n → p a ≡ false → find p (range_with_len a (n - a)) ≡ r
      → find p (range_with_len (a + 1) (n - (a + 1))) ≡ r
  found_on r lt is same = sym (next lt ∙ rw is refl) ∙ same

  pub found_none : (r : Option ℕ) → n ≤ a → find p (range_with_len a (n - a)) ≡ r → None ≡ r
  found_none r past same = let e : n - a ≡ 0 = omega (arith, past) in
      ap (λ k. find p (range_with_len a k)) (sym e) ∙ same
