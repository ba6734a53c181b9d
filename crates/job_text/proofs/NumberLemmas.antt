-- What std's reading of digits says of the numbers of a job.
use Rattle.std.proofs.Common.{◌≡◌, ℕ, ◌<◌, ◌≤◌, ◌^◌, Bool, true, false, ◌&&◌, ◌==◌, nat_lt, cond, List, [], ◌∷◌, length}
use Rattle.std.proofs.Common.{Some, None, Result, Ok, Err, slice_index, not, subst, arith, refl, ap}
use Rattle.std.proofs.lemmas.Bool.{false≢true, lt-ltb, ltb-true}
use Rattle.std.proofs.lemmas.Bool.Decides.{nat_tests}
use Rattle.std.specs.Char.{digit_value}
use Rattle.std.specs.List.{list_all}
use Rattle.std.specs.Result.{OkIff, result_ok}
use Rattle.std.proofs.lemmas.Str.Parse.{without_leading_plus_none}
use Rattle.std.specs.Str.Parse.{AllDigits, IsNumeral, ParsesUnsigned, digits_value}
use Rattle.job_text.specs.Numbers.{is_numeral, numeral}
use Rattle.job_text.proofs.WordLemmas.{both_hold}

together : (a b : Bool) → a ≡ true → b ≡ true → (a && b) ≡ true
together a b e f = rw (e, f) refl

digits_tested : (base : ℕ) (ds : List ℕ) → AllDigits base ds → list_all (λ c. nat_lt (digit_value c) base) ds ≡ true
digits_tested base [] h = refl
digits_tested base (c ∷ cs) h =
    together (nat_lt (digit_value c) base) (list_all (λ c. nat_lt (digit_value c) base) cs)
    (grind (arith, nat_tests, h.0)) (digits_tested base cs h.1)

digits_meant : (base : ℕ) (ds : List ℕ) → list_all (λ c. nat_lt (digit_value c) base) ds ≡ true → AllDigits base ds
digits_meant base [] e = tt
digits_meant base (c ∷ cs) e =
    let parts = both_hold (nat_lt (digit_value c) base) (list_all (λ c. nat_lt (digit_value c) base) cs) e in
    (grind (arith, nat_tests, parts.0), digits_meant base cs parts.1)

some_bytes : (n : ℕ) → 0 < n → not (n == 0) ≡ true
some_bytes n h = grind (arith, nat_tests)

bytes_some : (n : ℕ) → not (n == 0) ≡ true → 0 < n
bytes_some n e = grind (arith, nat_tests)

-- whether digits write a number below 2^64
abbrev fits : ℕ → List ℕ → Bool
fits base ds = is_numeral base ds && nat_lt (digits_value base ds) (2 ^ 64)

fits_tested : (base : ℕ) (ds : List ℕ) → IsNumeral base ds × (digits_value base ds < 2 ^ 64) → fits base ds ≡ true
fits_tested base ds h =
    together (is_numeral base ds) (nat_lt (digits_value base ds) (2 ^ 64))
    (together (not (length ds == 0)) (list_all (λ c. nat_lt (digit_value c) base) ds) (some_bytes (length ds) h.0.0)
    (digits_tested base ds h.0.1))
    (lt-ltb (digits_value base ds) (2 ^ 64) h.1)

fits_meant : (base : ℕ) (ds : List ℕ) → fits base ds ≡ true → IsNumeral base ds × (digits_value base ds < 2 ^ 64)
fits_meant base ds e =
    let parts = both_hold (is_numeral base ds) (nat_lt (digits_value base ds) (2 ^ 64)) e in
    let digits = both_hold (not (length ds == 0)) (list_all (λ c. nat_lt (digit_value c) base) ds) parts.0 in
    ((bytes_some (length ds) digits.0, digits_meant base ds digits.1), ltb-true (digits_value base ds) (2 ^ 64) parts.1)

none_unless : (t : Bool) (v : ℕ) → (t ≡ true → ⊥) → None ≡ cond t (Some v) None
none_unless true v h = absurd (h refl)
none_unless false v h = refl

-- std's reading of digits without a sign
pub numeral_read : {E : Type 0} (base : ℕ) (ds : List ℕ) (r : Result ℕ E)
    → OkIff r (IsNumeral base ds × (digits_value base ds < 2 ^ 64)) (digits_value base ds)
    → result_ok r ≡ numeral base ds
unfolding numeral
numeral_read base ds (Ok x) h = rw (fits_tested base ds h.0) (ap Some h.1)
numeral_read base ds (Err e) h = none_unless (fits base ds) (digits_value base ds) (λ t. h (fits_meant base ds t))

-- a plus is no digit
pub numeral_plus : (base : ℕ) (ds : List ℕ) → base ≤ 36 → (slice_index ds 0 == 43) ≡ true → None ≡ numeral base ds
unfolding numeral
numeral_plus base [] b e = absurd (false≢true e)
numeral_plus base (c ∷ cs) b e =
    none_unless (fits base (c ∷ cs)) (digits_value base (c ∷ cs)) (λ t.
    let digit = (fits_meant base (c ∷ cs) t).0.1.0 in
    let plus : c ≡ 43 = grind (arith, nat_tests) in
    plus_no_digit base c b plus digit)
  where
    plus_no_digit : (base c : ℕ) → base ≤ 36 → c ≡ 43 → digit_value c < base → ⊥
    plus_no_digit base c b e h = let small : 36 < base = subst (λ (x : ℕ). digit_value x < base) e h in omega arith

differs : (n k : ℕ) → (n == k) ≡ false → n ≡ k → ⊥
differs n k e same = grind (arith, nat_tests)

-- std's reading of digits that begin with no plus
pub numeral_parsed : {E : Type 0} (base : ℕ) (ds : List ℕ) (r : Result ℕ E) → (slice_index ds 0 == 43) ≡ false
    → ParsesUnsigned 64 base ds r → result_ok r ≡ numeral base ds
numeral_parsed base ds r e h =
    numeral_read base ds r (rw (without_leading_plus_none ds (differs (slice_index ds 0) 43 e)) at h)
