-- Laws of threads in rising order, for callers that split a pass and give each half to a thread.
use Rattle.std.specs.Prelude.{◌≡◌, ◌==◌, ◌+◌, ◌-◌, ◌/◌, ◌≤◌, ℕ, zero, suc, List, ◌∷◌, ◌++◌, length, take, drop}
use Rattle.std.proofs.Common.{refl, ap, ◌∙◌, eq-eqb, arith}
use Rattle.shared_modules.specs.Views.{flag, times, rising, all_threads, half_of, first_half, second_half}

same_rising : (first first' count count' : ℕ) → first ≡ first' → count ≡ count'
    → rising first count ≡ rising first' count'
same_rising first first' count count' e d = λ i. rising (e i) (d i)

pub rising-length : (first count : ℕ) → length (rising first count) ≡ count
rising-length first zero = refl
rising-length first (suc more) = let h = rising-length (first + 1) more in omega arith

take_rising : (first count some : ℕ) → some ≤ count → take some (rising first count) ≡ rising first some
take_rising first count zero few = refl
take_rising first zero (suc some) few = absurd (omega arith)
take_rising first (suc count) (suc some) few =
    ap (λ (rest : List ℕ). first ∷ rest) (take_rising (first + 1) count some (omega arith))

drop_rising : (first count some : ℕ) → some ≤ count
    → drop some (rising first count) ≡ rising (first + some) (count - some)
drop_rising first count zero few = same_rising first (first + 0) count (count - 0) (omega arith) (omega arith)
drop_rising first zero (suc some) few = absurd (omega arith)
drop_rising first (suc count) (suc some) few =
    drop_rising (first + 1) count some (omega arith)
    ∙ same_rising (first + 1 + some) (first + suc some) (count - some) (suc count - suc some)
    (omega arith) (omega arith)

-- half of them, rounded up
pub half_rising : (first count : ℕ) → half_of (rising first count) ≡ (count + 1) / 2
half_rising first count = ap (λ (n : ℕ). (n + 1) / 2) (rising-length first count)

pub first_rising : (first count : ℕ) → first_half (rising first count) ≡ rising first ((count + 1) / 2)
first_rising first count = ap (λ (n : ℕ). take n (rising first count)) (half_rising first count)
    ∙ take_rising first count ((count + 1) / 2) (omega arith)

pub second_rising : (first count : ℕ)
    → second_half (rising first count) ≡ rising (first + (count + 1) / 2) (count - (count + 1) / 2)
second_rising first count = ap (λ (n : ℕ). drop n (rising first count)) (half_rising first count)
    ∙ drop_rising first count ((count + 1) / 2) (omega arith)

pub join_rising : (first some more : ℕ) → rising first some ++ rising (first + some) more ≡ rising first (some + more)
join_rising first zero more = same_rising (first + 0) first more (0 + more) (omega arith) (omega arith)
join_rising first (suc some) more =
    ap (λ (rest : List ℕ). first ∷ (rising (first + 1) some ++ rest))
    (same_rising (first + suc some) (first + 1 + some) more more (omega arith) refl)
    ∙ ap (λ (rest : List ℕ). first ∷ rest) (join_rising (first + 1) some more)
    ∙ same_rising first first (suc (some + more)) (suc some + more) refl (omega arith)

-- the first of them is one of them
pub first_named : (first count : ℕ) → 1 ≤ count → 1 ≤ times first (rising first count)
first_named first zero some = absurd (omega arith)
first_named first (suc more) some = let e : flag (first == first) ≡ 1 = ap flag (eq-eqb first first refl) in omega arith

pub all_rising : all_threads ≡ rising 1 64
unfolding all_threads
all_rising = refl
