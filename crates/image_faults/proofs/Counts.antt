-- Numbers that lead: one more that passes, and the first that does not.
use Rattle.std.proofs.Common.{◌≡◌, ◌+◌, ◌<◌, ◌⊎◌, ℕ, zero, suc, List, Bool, true, false, refl, inl, inr, arith, add-one}
use Rattle.std.proofs.Common.{nat_lt, ◌==◌, if◌then◌else◌}
use Rattle.std.proofs.lemmas.Bool.Decides.{nat_tests}
use Rattle.elf_records.specs.declared.program_header.TheConstants.{PT_LOAD, PT_GNU_RELRO}
use Rattle.image_faults.specs.Counts.{leading, how_many, behind_last}
use Rattle.image_faults.specs.Parts.{segment}

-- header i is that of a part to be loaded
abbrev pub is_load : List ℕ → ℕ → Bool
is_load b i = (segment b i).kind == PT_LOAD

-- header i names the part that only the loader writes
abbrev pub is_relro : List ℕ → ℕ → Bool
is_relro b i = (segment b i).kind == PT_GNU_RELRO

pub lead_of : (r n : ℕ) (q : Bool) → r ≡ n → q ≡ true → (if nat_lt r n then r else (if q then suc n else n)) ≡ suc n
lead_of r n q same passes = grind (arith, nat_tests)

pub stop_of : (r n : ℕ) (q : Bool) → r ≡ n → q ≡ false → (if nat_lt r n then r else (if q then suc n else n)) ≡ n
stop_of r n q same fails = grind (arith, nat_tests)

pub stay_of : (r n m : ℕ) → r < n → (if nat_lt r n then r else m) ≡ r
stay_of r n m below = grind (arith, nat_tests)

pub leading_none : (p : ℕ → Bool) → leading p 0 ≡ 0
unfolding leading
leading_none p = refl

-- all numbers so far pass, and so does the next
pub leading_more : (p : ℕ → Bool) (n : ℕ) → leading p n ≡ n → p n ≡ true → leading p (n + 1) ≡ n + 1
unfolding leading
leading_more p n all passes = rw add-one (lead_of (leading p n) n (p n) all passes)

pub below_or_at : (n m : ℕ) → n < suc m → (n < m) ⊎ (n ≡ m)
below_or_at n m h = grind arith

-- all numbers so far pass, and the next does not: it is how many lead, however far one looks
pub leading_stops : (p : ℕ → Bool) (n m : ℕ) → leading p n ≡ n → p n ≡ false → n < m → leading p m ≡ n
unfolding leading
leading_stops p n zero all fails h = absurd (omega arith)
leading_stops p n (suc m) all fails h = elim (below_or_at n m h) [
  | inl lt ↦
      let earlier = leading_stops p n m all fails lt in
      rw earlier (stay_of n m (if p m then suc m else m) lt)
  | inr same ↦ rw (← same) (stop_of (leading p n) n (p n) all fails)
]

pub many_none : (p : ℕ → Bool) → how_many p 0 ≡ 0
unfolding how_many
many_none p = refl

pub many_more : (p : ℕ → Bool) (n : ℕ) → p n ≡ true → how_many p (n + 1) ≡ how_many p n + 1
unfolding how_many
many_more p n passes = rw (add-one n, passes, add-one (how_many p n)) refl

pub many_same : (p : ℕ → Bool) (n : ℕ) → p n ≡ false → how_many p (n + 1) ≡ how_many p n
unfolding how_many
many_same p n fails = rw (add-one, fails) refl

pub last_none : (p : ℕ → Bool) → behind_last p 0 ≡ 0
unfolding behind_last
last_none p = refl

pub last_more : (p : ℕ → Bool) (n : ℕ) → p n ≡ true → behind_last p (n + 1) ≡ n + 1
unfolding behind_last
last_more p n passes = rw (add-one, passes) refl

pub last_same : (p : ℕ → Bool) (n : ℕ) → p n ≡ false → behind_last p (n + 1) ≡ behind_last p n
unfolding behind_last
last_same p n fails = rw (add-one, fails) refl

-- a number that equals another passes the test for it, and one that differs does not
pub is_of : (x y k : ℕ) → x ≡ y → x ≡ k → (y == k) ≡ true
is_of x y k same is = grind (arith, nat_tests)

pub is_not_of : (x y k : ℕ) → x ≡ y → (x ≡ k → ⊥) → (y == k) ≡ false
is_not_of x y k same not = grind (arith, nat_tests)
