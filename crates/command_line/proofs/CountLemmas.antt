-- What std's reading of digits says of a count.
use Rattle.std.proofs.Common.{◌≡◌, ℕ, ◌<◌, ◌≤◌, ◌^◌, Bool, true, false, ◌&&◌, ◌==◌, nat_lt, cond, List, [], ◌∷◌, length}
use Rattle.std.proofs.Common.{Some, None, Result, Ok, Err, slice_index, not, subst, arith, refl, sym, ap, ◌∙◌}
use Rattle.std.proofs.lemmas.Bool.Decides.{nat_tests}
use Rattle.std.proofs.lemmas.Str.Parse.{digit_at, without_leading_plus_none}
use Rattle.std.specs.Int.{IsInRange}
use Rattle.std.specs.Char.{digit_value}
use Rattle.std.specs.List.{list_all}
use Rattle.std.specs.Result.{OkIff}
use Rattle.std.specs.Str.Parse.{AllDigits, IsNumeral, ParsesUnsigned, digits_value}
use Rattle.command_line.specs.Counts.{count_of, is_count, is_numeral}

together : (a b : Bool) → a ≡ true → b ≡ true → (a && b) ≡ true
together a b e f = rw (e, f) refl

both_hold : (a b : Bool) → (a && b) ≡ true → (a ≡ true) × (b ≡ true)
both_hold true b e = (refl, e)
both_hold false b e = absurd (never e)
  where
    never : false ≡ true → ⊥
    never e = cc

abbrev is_digit : ℕ → Bool
is_digit c = nat_lt (digit_value c) 10

digits_tested : (ds : List ℕ) → AllDigits 10 ds → list_all is_digit ds ≡ true
digits_tested [] h = refl
digits_tested (c ∷ cs) h =
    together (is_digit c) (list_all is_digit cs) (grind (arith, nat_tests, h.0)) (digits_tested cs h.1)

digits_meant : (ds : List ℕ) → list_all is_digit ds ≡ true → AllDigits 10 ds
digits_meant [] e = tt
digits_meant (c ∷ cs) e =
    let parts = both_hold (is_digit c) (list_all is_digit cs) e in
    (grind (arith, nat_tests, parts.0), digits_meant cs parts.1)

-- the first byte is a digit other than zero
abbrev Begins : List ℕ → Type 0
Begins ds = (49 ≤ slice_index ds 0) × (slice_index ds 0 ≤ 57)

some_bytes : (ds : List ℕ) → 0 < length ds → not (length ds == 0) ≡ true
some_bytes ds h = grind (arith, nat_tests)

bytes_some : (ds : List ℕ) → not (length ds == 0) ≡ true → 0 < length ds
bytes_some ds e = grind (arith, nat_tests)

no_zero : (c : ℕ) → 49 ≤ c → not (c == 48) ≡ true
no_zero c h = grind (arith, nat_tests)

numeral_tested : (ds : List ℕ) → Begins ds → IsNumeral 10 ds → is_numeral ds ≡ true
numeral_tested ds b h =
    together (not (length ds == 0) && not (slice_index ds 0 == 48)) (list_all is_digit ds)
    (together (not (length ds == 0)) (not (slice_index ds 0 == 48)) (some_bytes ds h.0)
    (no_zero (slice_index ds 0) b.0))
    (digits_tested ds h.1)

numeral_meant : (ds : List ℕ) → is_numeral ds ≡ true → IsNumeral 10 ds
numeral_meant ds e =
    let parts = both_hold (not (length ds == 0) && not (slice_index ds 0 == 48)) (list_all is_digit ds) e in
    let some = both_hold (not (length ds == 0)) (not (slice_index ds 0 == 48)) parts.0 in
    (bytes_some ds some.0, digits_meant ds parts.1)

small : (n : ℕ) → is_count n ≡ true → n < 2 ^ 32
small n e = grind (arith, nat_tests)

none_unless : (t : Bool) (v : ℕ) → (t ≡ true → ⊥) → None ≡ cond t (Some v) None
none_unless true v h = absurd (h refl)
none_unless false v h = refl

no_plus : (c : ℕ) → 49 ≤ c → c ≡ 43 → ⊥
no_plus c h e = omega arith

-- the reading of a word that begins with a digit other than zero
abbrev Reads : List ℕ → {E : Type 0} → Result ℕ E → Type 0
Reads ds r = OkIff r (IsNumeral 10 ds × (digits_value 10 ds < 2 ^ 32)) (digits_value 10 ds)

read : {E : Type 0} (ds : List ℕ) (r : Result ℕ E) → Begins ds → ParsesUnsigned 32 10 ds r → Reads ds r
read ds r b h = rw (without_leading_plus_none ds (no_plus (slice_index ds 0) b.0)) at h

-- where it gives a number, that is the word's count if it is one
pub count_read : {E : Type 0} (ds : List ℕ) (r : Result ℕ E) (x : ℕ) → Begins ds → ParsesUnsigned 32 10 ds r → r ≡ Ok x
    → cond (is_count x) (Some x) None ≡ count_of ds
unfolding count_of
count_read ds r x b h e =
    let parts = subst (Reads ds) e (read ds r b h) in
    ap (λ n. cond (is_count n) (Some n) None) parts.1
    ∙ ap (λ t. cond (t && is_count (digits_value 10 ds)) (Some (digits_value 10 ds)) None)
    (sym (numeral_tested ds b parts.0.0))

-- where it gives none, the word writes no count
pub count_not_read : {E : Type 0} (ds : List ℕ) (r : Result ℕ E) (f : E) → Begins ds → ParsesUnsigned 32 10 ds r
    → r ≡ Err f
    → None ≡ count_of ds
unfolding count_of
count_not_read ds r f b h e =
    none_unless (is_numeral ds && is_count (digits_value 10 ds)) (digits_value 10 ds) (λ t.
    let parts = both_hold (is_numeral ds) (is_count (digits_value 10 ds)) t in
    subst (Reads ds) e (read ds r b h) (numeral_meant ds parts.0, small (digits_value 10 ds) parts.1))

numeral_begins : (ds : List ℕ) → is_numeral ds ≡ true → Begins ds
numeral_begins ds e =
    let parts = both_hold (not (length ds == 0) && not (slice_index ds 0 == 48)) (list_all is_digit ds) e in
    let some = both_hold (not (length ds == 0)) (not (slice_index ds 0 == 48)) parts.0 in
    let range : IsInRange 48 57 (slice_index ds 0) = digit_at ds 0 (digits_meant ds parts.1) (bytes_some ds some.0) in
    from_range (slice_index ds 0) range some.1
  where
    from_range : (c : ℕ) → IsInRange 48 57 c → not (c == 48) ≡ true → (49 ≤ c) × (c ≤ 57)
    from_range c r e = let other : c ≡ 48 → ⊥ = λ same. grind (arith, nat_tests) in (omega arith, r.1)

-- a word that begins with another byte writes none
pub no_count : (ds : List ℕ) → (Begins ds → ⊥) → None ≡ count_of ds
unfolding count_of
no_count ds h =
    none_unless (is_numeral ds && is_count (digits_value 10 ds)) (digits_value 10 ds) (λ t.
    h (numeral_begins ds (both_hold (is_numeral ds) (is_count (digits_value 10 ds)) t).0))
