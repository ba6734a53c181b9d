-- The first number that passes a test.
use Rattle.std.proofs.Common.{◌≡◌, ◌+◌, ◌<◌, ◌≤◌, ◌⊎◌, ℕ, zero, suc, Bool, true, false, refl, inl, inr, arith}
use Rattle.std.proofs.Common.{add-one, nat_lt, if◌then◌else◌}
use Rattle.std.proofs.lemmas.Bool.Decides.{nat_tests}
use Rattle.object_faults.specs.Firsts.{first_below}

-- the result after n + 1 tests: an earlier find r, or else m where the test q at n passes
later : (r m n : ℕ) (q : Bool) → 0 < n → r ≡ n → (if nat_lt 0 r then r else (if q then m else 0)) ≡ n
later r m n q above same = grind (arith, nat_tests)

here : (r n : ℕ) (q : Bool) → r ≡ 0 → q ≡ true → (if nat_lt 0 r then r else (if q then n else 0)) ≡ n
here r n q none passes = grind (arith, nat_tests)

-- one number more, which does not pass
pub first_none : (p : ℕ → Bool) (n : ℕ) → first_below p n ≡ 0 → p n ≡ false → first_below p (n + 1) ≡ 0
unfolding first_below
first_none p n none fails = rw (add-one, none, fails) refl

below_or_at : (n m : ℕ) → n < suc m → (n < m) ⊎ (n ≡ m)
below_or_at n m h = grind arith

-- a number that passes is found, however far the search goes on
pub first_found : (p : ℕ → Bool) (n m : ℕ) → 0 < n → first_below p n ≡ 0 → p n ≡ true → n < m → first_below p m ≡ n
unfolding first_below
first_found p n zero above none passes h = absurd (omega arith)
first_found p n (suc m) above none passes h =
    elim (below_or_at n m h) [
      | inl lt ↦ later (first_below p m) m n (p m) above (first_found p n m above none passes lt)
      | inr same ↦ rw (← same) (here (first_below p n) n (p n) none passes)
    ]

-- what is found passes, and lies below the end
passes_of : (p : ℕ → Bool) (r n : ℕ) → (0 < r → (p r ≡ true) × (r < n))
    → 0 < (if nat_lt 0 r then r else (if p n then n else 0))
    → (p (if nat_lt 0 r then r else (if p n then n else 0)) ≡ true) ×
    ((if nat_lt 0 r then r else (if p n then n else 0)) < suc n)
passes_of p r n known h = grind (arith, nat_tests)

pub first_passes : (p : ℕ → Bool) (n : ℕ) → 0 < first_below p n → (p (first_below p n) ≡ true) × (first_below p n < n)
unfolding first_below
first_passes p zero h = absurd (omega arith)
first_passes p (suc n) h = passes_of p (first_below p n) n (first_passes p n) h

-- nothing passes before what is found
least_of : (r n k : ℕ) (q : Bool) → (k < n → (0 < r) × (r ≤ k)) → (r < n) ⊎ (r ≡ 0) → k < suc n → 0 < k
    → (k ≡ n → q ≡ true)
    → (0 < (if nat_lt 0 r then r else (if q then n else 0))) × ((if nat_lt 0 r then r else (if q then n else 0)) ≤ k)
least_of r n k q known low h above passes = grind (arith, nat_tests)

low_of : (p : ℕ → Bool) (n : ℕ) → (first_below p n < n) ⊎ (first_below p n ≡ 0)
low_of p n = elim (positive (first_below p n)) [ inl h ↦ inl (first_passes p n h).1 | inr z ↦ inr z ]
  where
    positive : (r : ℕ) → (0 < r) ⊎ (r ≡ 0)
    positive r = grind arith

pub first_least : (p : ℕ → Bool) (n k : ℕ) → 0 < k → k < n → p k ≡ true → (0 < first_below p n) × (first_below p n ≤ k)
unfolding first_below
first_least p zero k above h passes = absurd (omega arith)
first_least p (suc n) k above h passes =
    least_of (first_below p n) n k (p n) (λ lt. first_least p n k above lt passes) (low_of p n) h above
    (λ same. rw (← same) passes)

-- one number more: it does not pass, or something was found before, or it is what is found
pub first_same : (p : ℕ → Bool) (n : ℕ) → p n ≡ false → first_below p (n + 1) ≡ first_below p n
unfolding first_below
first_same p n fails = rw (add-one, fails) (same_of (first_below p n))
  where
    same_of : (r : ℕ) → (if nat_lt 0 r then r else 0) ≡ r
    same_of r = grind (arith, nat_tests)

pub first_kept : (p : ℕ → Bool) (n : ℕ) → (first_below p n ≡ 0 → ⊥) → first_below p (n + 1) ≡ first_below p n
unfolding first_below
first_kept p n some = rw add-one (kept_of (first_below p n) (if p n then n else 0) some)
  where
    kept_of : (r m : ℕ) → (r ≡ 0 → ⊥) → (if nat_lt 0 r then r else m) ≡ r
    kept_of r m some = grind (arith, nat_tests)

pub first_new : (p : ℕ → Bool) (n : ℕ) → first_below p n ≡ 0 → p n ≡ true → first_below p (n + 1) ≡ n
unfolding first_below
first_new p n none passes = rw (add-one, none, passes) refl
