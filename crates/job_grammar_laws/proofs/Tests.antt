-- What the tests of a line's words say.
use Rattle.std.proofs.Common.{◌≡◌, ◌≢◌, ◌∙◌, ◌⊎◌, ℕ, zero, suc, ◌<◌, ◌≤◌, Bool, true, false, not, ◌&&◌, ◌||◌}
use Rattle.std.proofs.Common.{cond, List, [], ◌∷◌, length, drop, Option, Some, None, is_none}
use Rattle.std.proofs.Common.{unwrap_or, inl, inr, refl, sym, ap, subst, arith, le-leb, le-ltb, leb-true, ltb-false}
use Rattle.std.specs.Prelude.{codes, if◌then◌else◌, nat_le, nat_lt, option_and_then}
use Rattle.std.specs.Char.{digit_value}
use Rattle.std.specs.Fmt.{decimal}
use Rattle.std.specs.List.{All, Contains, list_all, list_any}
use Rattle.std.specs.Str.{bytes_eq}
use Rattle.std.specs.Str.Parse.{AllDigits}
use Rattle.std.proofs.lemmas.Bool.{agree_below_at, and_from, and_parts, cases_lt, false≢true, or_from}
use Rattle.std.proofs.lemmas.Fmt.{decimal_is_IsNumeral}
use Rattle.std.proofs.lemmas.List.Elements.{All-cons, All-contains, All-head, All-nil, All-tail}
use Rattle.std.proofs.lemmas.Slice.Eq.{bytes_eq-Decides}
use Rattle.job_text.specs.Grammar.{begins_with_digit, has_name_bytes, has_name_length, heading_of, is_digit_byte}
use Rattle.job_text.specs.Grammar.{is_image_name, is_name_byte, is_short_name, verb_heading}
use Rattle.job_text.specs.Numbers.{number, number_within}
use Rattle.job_text.specs.Words.{word_at}
use Rattle.job_text.specs.declared.fault.JobFaultKind.TheVariants as kind
use Rattle.job_grammar_laws.specs.Images.{IsName, letters}
use Rattle.job_grammar_laws.specs.Numbers.{Writes}
use Rattle.job_grammar_laws.proofs.Apart.{unless_not}
use Rattle.job_grammar_laws.proofs.Numbers.{value_past, writes_read}

-- ** the kinds of faults, in their order

pub under : (m b n s : Bool) → cond m (Some kind.Count) (cond b (Some kind.Number) (cond n (Some kind.Name)
    (cond s (Some kind.Twice) None))) ≡ None → (m ≡ false) × (b ≡ false) × (n ≡ false) × (s ≡ false)
under true b n s e = absurd (cc e)
under false true n s e = absurd (cc e)
under false false true s e = absurd (cc e)
under false false false true e = absurd (cc e)
under false false false false e = (refl, refl, refl, refl)

pub over : (m b n s : Bool) → m ≡ false → b ≡ false → n ≡ false → s ≡ false
    → cond m (Some kind.Count) (cond b (Some kind.Number) (cond n (Some kind.Name) (cond s (Some kind.Twice) None)))
    ≡ None
over m b n s p q r t = λ i.
    cond (p i) (Some kind.Count) (cond (q i) (Some kind.Number) (cond (r i) (Some kind.Name)
    (cond (t i) (Some kind.Twice) None)))

pub few_lines : (number : ℕ) → number ≤ 65536 → nat_lt 65536 number ≡ false
few_lines number few = le-ltb 65536 number few

-- a line that is no image's has its words, and stands among the first
pub has_words : (has : Bool) (number : ℕ) → (not has || false || nat_lt 65536 number) ≡ false
    → (has ≡ true) × (number ≤ 65536)
has_words false number e = absurd (false≢true (sym e))
has_words true number e = (refl, ltb-false 65536 number e)

-- ** numbers

abbrev if_within : ℕ → ℕ → Option ℕ → Option ℕ
if_within low high = option_and_then (λ value. if nat_le low value && nat_le value high then Some value else None)

pub within_read : (low high : ℕ) (word : List ℕ) (n : ℕ) → Writes word n → low ≤ n → n ≤ high
    → number_within low high word ≡ Some n
within_read low high word n is least most =
    ap (if_within low high) ((writes_read word n).1 is)
    ∙ ap (λ t. cond t (Some n) None)
    (and_from (nat_le low n) (nat_le n high) (le-leb low n least) (le-leb n high most))

pub within_writes : (low high : ℕ) (word : List ℕ) → is_none (number_within low high word) ≡ false
    → (n : ℕ) × Writes word n × (low ≤ n) × (n ≤ high)
within_writes low high word e = by (number word) refl e
  where
    bounded : (n : ℕ) → Writes word n → (p q : Bool) → nat_le low n ≡ p → nat_le n high ≡ q
        → is_none (cond (p && q) (Some n) None) ≡ false → (n : ℕ) × Writes word n × (low ≤ n) × (n ≤ high)
    bounded n is true true least most e = (n, is, leb-true low n least, leb-true n high most)
    bounded n is true false least most e = absurd (false≢true (sym e))
    bounded n is false q least most e = absurd (false≢true (sym e))

    by : (o : Option ℕ) → number word ≡ o → is_none (if_within low high o) ≡ false
        → (n : ℕ) × Writes word n × (low ≤ n) × (n ≤ high)
    by None is e = absurd (false≢true (sym e))
    by (Some n) is e = bounded n ((writes_read word n).0 is) (nat_le low n) (nat_le n high) refl refl e

pub number_writes : (word : List ℕ) → is_none (number word) ≡ false → (n : ℕ) × Writes word n
number_writes word e = by (number word) refl e
  where
    by : (o : Option ℕ) → number word ≡ o → is_none o ≡ false → (n : ℕ) × Writes word n
    by None is e = absurd (false≢true (sym e))
    by (Some n) is e = (n, (writes_read word n).0 is)

pub written : (word : List ℕ) (n : ℕ) → Writes word n → unwrap_or (number word) 0 ≡ n
written word n is = ap (λ o. unwrap_or o 0) ((writes_read word n).1 is)

-- ** a line of a thread begins with a digit

pub digit_first : (byte : ℕ) → digit_value byte < 10 → is_digit_byte byte ≡ true
digit_first byte lt = elim (cases_lt byte 123) [
  | inl below ↦
      sym (agree_below_at (λ c. nat_lt (digit_value c) 10) is_digit_byte 123 byte refl below)
      ∙ first (nat_lt (digit_value byte) 10) refl
  | inr past ↦ absurd (omega (arith, value_past byte past))
]
  where
    first : (is : Bool) → nat_lt (digit_value byte) 10 ≡ is → is ≡ true
    first true e = refl
    first false e = absurd (omega (arith, ltb-false (digit_value byte) 10 e))

first_of : (ds : List ℕ) → 0 < length ds → AllDigits 10 ds → begins_with_digit ds ≡ true
first_of [] some are = absurd (omega arith)
first_of (c ∷ cs) some are = digit_first c are.0

pub begins : (word : List ℕ) (n : ℕ) → Writes word n → begins_with_digit word ≡ true
begins word n is = elim is.form [
  | inl plain ↦
      subst (λ (w : List ℕ). begins_with_digit w ≡ true) (sym plain)
      (first_of (decimal n) (decimal_is_IsNumeral n is.small).0.0 (decimal_is_IsNumeral n is.small).0.1)
  | inr hex ↦ subst (λ (w : List ℕ). begins_with_digit w ≡ true) (sym hex.written) refl
]

no_word : (word other : List ℕ) → begins_with_digit word ≡ true → begins_with_digit other ≡ false
    → bytes_eq word other ≡ false
no_word word other is is_not = by (bytes_eq word other) refl
  where
    by : (t : Bool) → bytes_eq word other ≡ t → t ≡ false
    by true e = absurd (false≢true (sym is_not ∙ ap begins_with_digit (sym ((bytes_eq-Decides word other).0 e)) ∙ is))
    by false e = refl

-- so the kind of its line is told by the second word
pub thread_headed : (word verb : List ℕ) (more : List (List ℕ)) (n : ℕ) → Writes word n
    → heading_of (word ∷ verb ∷ more) ≡ verb_heading verb
unfolding heading_of
thread_headed word verb more n is =
    let digit = begins word n is in
    rw (
      no_word word (codes "image") digit refl,
      no_word word (codes "threads") digit refl,
      no_word word (codes "fuel") digit refl,
      no_word word (codes "order") digit refl,
      digit,
      le-ltb (length (word ∷ verb ∷ more)) 2 (omega arith),
    ) refl

-- ** names

pub short_read : (word : List ℕ) → length word ≤ 255 → not (is_short_name word) ≡ false
short_read word short = ap not (le-leb (length word) 255 short)

pub short_is : (word : List ℕ) → not (is_short_name word) ≡ false → length word ≤ 255
short_is word e = leb-true (length word) 255 (unless_not (is_short_name word) e)

pub shorts_read : (words : List (List ℕ)) → All (λ word. length word ≤ 255) words
    → list_any (λ word. not (is_short_name word)) words ≡ false
shorts_read [] are = refl
shorts_read (word ∷ words) are =
    or_from (not (is_short_name word)) (list_any (λ word. not (is_short_name word)) words)
    (short_read word (All-head (λ (w : List ℕ). length w ≤ 255) word words are))
    (shorts_read words (All-tail (λ (w : List ℕ). length w ≤ 255) word words are))

letters_tested : (table : List ℕ) → list_all is_name_byte table ≡ true → All (λ b. is_name_byte b ≡ true) table
letters_tested [] e = All-nil (λ b. is_name_byte b ≡ true)
letters_tested (b ∷ table) e =
    let parts = and_parts (is_name_byte b) (list_all is_name_byte table) e in
    All-cons (λ b. is_name_byte b ≡ true) b table parts.0 (letters_tested table parts.1)

bytes_tested : (name : List ℕ) → All (Contains letters) name → has_name_bytes name ≡ true
bytes_tested [] are = refl
bytes_tested (b ∷ name) are =
    let is = All-contains (λ b. is_name_byte b ≡ true) letters b (letters_tested letters refl)
    (All-head (Contains letters) b name are) in
    and_from (is_name_byte b) (has_name_bytes name) is (bytes_tested name (All-tail (Contains letters) b name are))

pub name_tested : (name : List ℕ) → IsName name → is_image_name name ≡ true
name_tested name is =
    and_from (has_name_length name) (has_name_bytes name)
    (and_from (nat_le 1 (length name)) (nat_le (length name) 64) (le-leb 1 (length name) is.some)
    (le-leb (length name) 64 is.short))
    (bytes_tested name is.bytes)

-- a name stands in a list, or differs from each that does
pub in_or_new : (name : List ℕ) (all : List (List ℕ)) → Contains all name ⊎ All (λ other. other ≢ name) all
in_or_new name [] = inr (All-nil (λ (other : List ℕ). other ≢ name))
in_or_new name (x ∷ xs) = by (bytes_eq x name) refl (in_or_new name xs)
  where
    by : (is : Bool) → bytes_eq x name ≡ is → Contains xs name ⊎ All (λ other. other ≢ name) xs
        → Contains (x ∷ xs) name ⊎ All (λ other. other ≢ name) (x ∷ xs)
    by true e later = inl (0, omega arith, (bytes_eq-Decides x name).0 e)
    by false e (inl there) = inl (suc there.0, omega (arith, there.1), there.2)
    by false e (inr new) = inr (All-cons (λ (other : List ℕ). other ≢ name) x xs
        (λ same. false≢true (sym e ∙ (bytes_eq-Decides x name).1 same)) new)

pub told_apart : {S : Type 0} (o : Option S) (s : S) → is_none o ≡ false → o ≡ Some (unwrap_or o s)
told_apart None s e = absurd (false≢true (sym e))
told_apart (Some x) s e = refl

-- ** the words of a line, one by one

pub next_word : (k : ℕ) (words : List (List ℕ)) → k < length words → drop k words ≡ word_at k words ∷ drop (suc k) words
next_word k [] less = absurd (omega arith)
next_word zero (word ∷ words) less = refl
next_word (suc k) (word ∷ words) less = next_word k words (omega (arith, less))

pub no_word_more : (k : ℕ) (words : List (List ℕ)) → length words ≤ k → drop k words ≡ []
no_word_more zero [] most = refl
no_word_more zero (word ∷ words) most = absurd (omega (arith, most))
no_word_more (suc k) [] most = refl
no_word_more (suc k) (word ∷ words) most = no_word_more k words (omega (arith, most))
