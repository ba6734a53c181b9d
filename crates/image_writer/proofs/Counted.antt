-- Numbers below another that pass a test: what it says that so many lead, that there are so many, or that one is last.
use Rattle.std.proofs.Common.{◌≡◌, ◌+◌, ◌<◌, ◌≤◌, ◌⊎◌, ◌∙◌, ℕ, zero, suc, Bool, true, false, refl, sym, inl, inr, subst}
use Rattle.std.proofs.Common.{arith, nat_lt, if◌then◌else◌}
use Rattle.std.proofs.lemmas.Bool.Decides.{nat_tests}
use Rattle.image_faults.specs.Counts.{leading, how_many, behind_last}

-- one more number: it leads only if all before do
lead_step : (i r n : ℕ) (q : Bool) → i < (if nat_lt r n then r else (if q then suc n else n))
    → (i < r) ⊎ ((i ≡ n) × (q ≡ true)) ⊎ ((n ≤ r) × (i < n))
lead_step i r n q h = grind (arith, nat_tests)

-- each number that leads passes
pub lead_passes : (p : ℕ → Bool) (n i : ℕ) → i < leading p n → p i ≡ true
unfolding leading
lead_passes p zero i h = absurd (omega arith)
lead_passes p (suc n) i h = elim (lead_step i (leading p n) n (p n) h) [
  | inl earlier ↦ lead_passes p n i earlier
  | inr other ↦ elim other [
    | inl here ↦ let P : ℕ → Type 0 = λ k. p k ≡ true in subst P (sym here.0) here.1
    | inr all ↦ lead_passes p n i (omega (arith, all.0, all.1))
  ]
]

-- one more number: the count stays at most m
many_step : (r s m : ℕ) (q : Bool) → s ≤ m → (q ≡ false) ⊎ (s < m) → (if q then suc s else s) ≤ m
many_step r s m q h kept = grind arith

-- where each that passes finds fewer than m before it, there are at most m
pub many_at_most : (p : ℕ → Bool) (n m : ℕ) → ((i : ℕ) → i < n → (p i ≡ false) ⊎ (how_many p i < m)) → how_many p n ≤ m
unfolding how_many
many_at_most p zero m each = omega arith
many_at_most p (suc n) m each =
    let earlier = many_at_most p n m (λ i h. each i (omega arith)) in
    many_step 0 (how_many p n) m (p n) earlier (each n (omega arith))

-- tests that agree count alike
pub many_alike : (p q : ℕ → Bool) (n : ℕ) → ((i : ℕ) → i < n → p i ≡ q i) → how_many p n ≡ how_many q n
unfolding how_many
many_alike p q zero same = refl
many_alike p q (suc n) same =
    let earlier = many_alike p q n (λ i h. same i (omega arith)) in
    let here = same n (omega arith) in
    rw (here, earlier) refl

-- tests that agree find the same last one
pub last_alike : (p q : ℕ → Bool) (n : ℕ) → ((i : ℕ) → i < n → p i ≡ q i) → behind_last p n ≡ behind_last q n
unfolding behind_last
last_alike p q zero same = refl
last_alike p q (suc n) same =
    let earlier = last_alike p q n (λ i h. same i (omega arith)) in
    let here = same n (omega arith) in
    rw (here, earlier) refl

-- one more number: it is the last that passes, or the one found before is
last_step : (r n : ℕ) (q : Bool) → 0 < (if q then suc n else r)
    → ((q ≡ true) × ((if q then suc n else r) ≡ n + 1)) ⊎ ((0 < r) × ((if q then suc n else r) ≡ r))
last_step r n q h = grind arith

-- where there is a last one, it passes
pub last_found : (p : ℕ → Bool) (n : ℕ) → 0 < behind_last p n
    → (i : ℕ) × (i < n) × (p i ≡ true) × (behind_last p n ≡ i + 1)
unfolding behind_last
last_found p zero h = absurd (omega arith)
last_found p (suc n) h = elim (last_step (behind_last p n) n (p n) h) [
  | inl here ↦ (n, omega arith, here.0, here.1)
  | inr earlier ↦
      let found = last_found p n earlier.0 in
      (found.0, omega (arith, found.1), found.2, earlier.1 ∙ found.3)
]
