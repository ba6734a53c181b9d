-- Numbers that pass a test: how many lead, how many there are and which is the last, where the tests are known.
use Rattle.std.proofs.Common.{◌≡◌, ◌+◌, ◌<◌, ◌≤◌, ℕ, zero, suc, Bool, true, false, refl, inl, inr, arith, if◌then◌else◌}
use Rattle.image_faults.specs.Counts.{leading, how_many, behind_last}
use Rattle.image_faults.proofs.Counts.{below_or_at}
use Rattle.image_faults.proofs.Counts.{lead_of, stay_of, stop_of}

-- all numbers below n pass
leading_all : (p : ℕ → Bool) (n : ℕ) → ((i : ℕ) → i < n → p i ≡ true) → leading p n ≡ n
unfolding leading
leading_all p zero all = refl
leading_all p (suc n) all =
    lead_of (leading p n) n (p n) (leading_all p n (λ i lt. all i (omega arith))) (all n (omega arith))

-- all numbers below n pass, and n does not
pub leading_is : (p : ℕ → Bool) (n m : ℕ) → ((i : ℕ) → i < n → p i ≡ true) → p n ≡ false → n < m → leading p m ≡ n
unfolding leading
leading_is p n zero all fails h = absurd (omega arith)
leading_is p n (suc m) all fails h = elim (below_or_at n m h) [
  | inl lt ↦
      let earlier = leading_is p n m all fails lt in
      rw earlier (stay_of n m (if p m then suc m else m) lt)
  | inr same ↦ rw (← same) (stop_of (leading p n) n (p n) (leading_all p n all) fails)
]

-- two tests that agree below n
pub many_agree : (p q : ℕ → Bool) (n : ℕ) → ((i : ℕ) → i < n → p i ≡ q i) → how_many p n ≡ how_many q n
unfolding how_many
many_agree p q zero agree = refl
many_agree p q (suc n) agree = rw (agree n (omega arith), many_agree p q n (λ i lt. agree i (omega arith))) refl

-- so they have one last number
pub last_agree : (p q : ℕ → Bool) (n : ℕ) → ((i : ℕ) → i < n → p i ≡ q i) → behind_last p n ≡ behind_last q n
unfolding behind_last
last_agree p q zero agree = refl
last_agree p q (suc n) agree = rw (agree n (omega arith), last_agree p q n (λ i lt. agree i (omega arith))) refl

-- one more number keeps or raises how many pass
many_grows : (m : ℕ) (b : Bool) → m ≤ (if b then suc m else m)
many_grows m true = omega arith
many_grows m false = omega arith

-- a number that passes raises it
many_raises : (m : ℕ) (b : Bool) → b ≡ true → m < (if b then suc m else m)
many_raises m b is = rw is (omega arith)

-- a number below n that passes is not among those below itself
pub many_below : (p : ℕ → Bool) (i n : ℕ) → i < n → p i ≡ true → how_many p i < how_many p n
unfolding how_many
many_below p i zero h passes = absurd (omega arith)
many_below p i (suc n) h passes = elim (below_or_at i n h) [
  | inl lt ↦
      let earlier = many_below p i n lt passes in
      let step = many_grows (how_many p n) (p n) in
      omega arith
  | inr same ↦ rw same (many_raises (how_many p n) (p n) (rw (← same) passes))
]

-- one more number moves the last one that passes to itself, or leaves it
last_grows : (m n : ℕ) (b : Bool) → m ≤ n → (if b then suc n else m) ≤ suc n
last_grows m n true h = omega arith
last_grows m n false h = omega arith

-- the last one that passes is below n
pub last_within : (p : ℕ → Bool) (n : ℕ) → behind_last p n ≤ n
unfolding behind_last
last_within p zero = omega arith
last_within p (suc n) = last_grows (behind_last p n) n (p n) (last_within p n)

-- what was found is the number itself, or was found before
last_found : (p : ℕ → Bool) (m n g : ℕ) (b : Bool) → p n ≡ b → (if b then suc n else m) ≡ g + 1
    → (m ≡ g + 1 → p g ≡ true) → p g ≡ true
last_found p m n g true is found earlier = let same : g ≡ n = omega arith in rw same is
last_found p m n g false is found earlier = earlier found

-- no number below n passes
pub last_none : (p : ℕ → Bool) (n : ℕ) → ((i : ℕ) → i < n → p i ≡ false) → behind_last p n ≡ 0
unfolding behind_last
last_none p zero none = refl
last_none p (suc n) none = rw (none n (omega arith), last_none p n (λ i lt. none i (omega arith))) refl
