-- The numbers of a generated text.
use Rattle.std.proofs.Common.{◌≡◌, ◌∙◌, ℕ, ◌<◌, ◌^◌, true, false, nat_eq, List, [], ◌∷◌}
use Rattle.std.proofs.Common.{Some, Ok, length, slice_index, refl, sym, arith, decimal}
use Rattle.std.specs.Char.{digit_value}
use Rattle.std.specs.List.{list_all}
use Rattle.std.specs.Str.Parse.{AllDigits}
use Rattle.std.proofs.lemmas.Bool.{and_from}
use Rattle.std.proofs.lemmas.Bool.Decides.{nat_tests}
use Rattle.std.proofs.lemmas.Fmt.{decimal_is_IsNumeral, decimal_nonempty, first_decimal}
use Rattle.std.proofs.lemmas.Str.Parse.{digit_from_value}
use Rattle.job_text.specs.Numbers.{number, numeral}
use Rattle.job_text.proofs.NumberLemmas.{numeral_read}
use Rattle.generated_laws.proofs.TextLines.{is_word_byte}

-- ** a number above 0, below 2^64

word_digit : (c : ℕ) → digit_value c < 10 → is_word_byte c ≡ true
word_digit c below = let is = digit_from_value c below in grind (arith, nat_tests)

word_digits : (ds : List ℕ) → AllDigits 10 ds → list_all is_word_byte ds ≡ true
word_digits [] are = refl
word_digits (c ∷ cs) are =
    and_from (is_word_byte c) (list_all is_word_byte cs) (word_digit c are.0) (word_digits cs are.1)

-- digits are characters of words
pub decimal_word : (n : ℕ) → n < 2 ^ 64 → list_all is_word_byte (decimal n) ≡ true
decimal_word n small = word_digits (decimal n) (decimal_is_IsNumeral n small).0.1

differs : (c : ℕ) → 48 < c → (nat_eq 48 c ≡ false) × (nat_eq c 48 ≡ false)
differs c h = (grind (arith, nat_tests), grind (arith, nat_tests))

-- a word that begins with a digit above 0 is read in base 10
plain_number : (word : List ℕ) → 0 < length word → 48 < slice_index word 0 → number word ≡ numeral 10 word
unfolding number
plain_number [] some first = absurd (omega arith)
plain_number (c ∷ cs) some first =
    let zero_no : nat_eq 48 c ≡ false = (differs c first).0 in
    let no_zero : nat_eq c 48 ≡ false = (differs c first).1 in
    rw (zero_no, no_zero) refl

-- what writes a number is read as that number
pub decimal_number : (n : ℕ) → 0 < n → n < 2 ^ 64 → number (decimal n) ≡ Some n
decimal_number n some small =
    let is = decimal_is_IsNumeral n small in
    plain_number (decimal n) (decimal_nonempty n small) (first_decimal n some small)
    ∙ sym (numeral_read {E = ℕ} 10 (decimal n) (Ok n) ((is.0, omega (arith, is.1)), sym is.1))
