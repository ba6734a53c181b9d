-- What a word writes is read, and nothing else.
use Rattle.std.proofs.Common.{◌≡◌, ◌∙◌, ◌⊎◌, ◌↔◌, ℕ, zero, suc, ◌+◌, ◌*◌, ◌<◌, ◌≤◌, ◌^◌, Bool, true, false, not, ◌&&◌}
use Rattle.std.proofs.Common.{◌||◌}
use Rattle.std.proofs.Common.{◌==◌, cond, List, [], ◌∷◌, ◌++◌, length, drop, get_or, Option, Some, None, inl, inr}
use Rattle.std.proofs.Common.{arith}
use Rattle.std.proofs.Common.{refl, sym, ap, subst, eq-eqb, ne_eqb, eqb-true, le-ltb, lt-ltb, ltb-true}
use Rattle.std.proofs.lemmas.Bool.Decides.{Decides-eqb}
use Rattle.std.proofs.lemmas.Bool.{eqb-false, ltb-false}
use Rattle.std.proofs.lemmas.Slice.Eq.{starts_is}
use Rattle.std.proofs.lemmas.Bool.{and_parts, cases_lt, false≢true}
use Rattle.std.proofs.lemmas.Fmt.{decimal-digits_value, decimal_is_IsNumeral, first_decimal}
use Rattle.std.proofs.lemmas.Option.{same_Some}
use Rattle.std.proofs.lemmas.Str.Parse.{numerals_by_value, tells_digits}
use Rattle.std.specs.Char.{digit_value}
use Rattle.std.specs.Fmt.{decimal, digits}
use Rattle.std.specs.List.{list_all, starts_with}
use Rattle.std.specs.Prelude.{codes, nat_eq, nat_lt}
use Rattle.std.specs.Str.Parse.{AllDigits, digits_value, digits_value_after}
use Rattle.job_text.specs.Numbers.{has_leading_zero, number, numeral}
use Rattle.job_grammar_laws.specs.Numbers.{Extends, IsDigit, Writes}

-- ** digits

-- a digit's value stands in a table at its place
abbrev is_at_place : ℕ → Bool
is_at_place byte = nat_lt 15 (digit_value byte) || (get_or (codes "0123456789abcdef") (digit_value byte) 0 == byte)
    || (get_or (codes "0123456789ABCDEF") (digit_value byte) 0 == byte)

abbrev all_at_places : ℕ → Bool
all_at_places zero = true
all_at_places (suc n) = is_at_place n && all_at_places n

at_place : (n byte : ℕ) → all_at_places n ≡ true → byte < n → is_at_place byte ≡ true
at_place zero byte e lt = absurd (omega arith)
at_place (suc n) byte e lt =
    let parts = and_parts (is_at_place n) (all_at_places n) e in
    elim (cases_lt byte n) [
      | inl below ↦ at_place n byte parts.1 below
      | inr top ↦ let same : byte ≡ n = omega arith in rw same parts.0
    ]

-- no digit stands past `z`
pub value_past : (byte : ℕ) → 123 ≤ byte → digit_value byte ≡ 36
value_past byte le =
    rw (
      le-ltb byte 48 (omega arith),
      le-ltb byte 58 (omega arith),
      le-ltb byte 65 (omega arith),
      le-ltb byte 91 (omega arith),
      le-ltb byte 97 (omega arith),
      le-ltb byte 123 (omega arith),
    ) refl

digit_is : (byte : ℕ) → digit_value byte < 16 → IsDigit byte (digit_value byte)
digit_is byte lt = elim (cases_lt byte 123) [
  | inl below ↦ record {
    small = lt;
    either = by (nat_lt 15 (digit_value byte)) _ _ refl refl refl (at_place 123 byte refl below);
  }
  | inr past ↦ absurd (omega (arith, value_past byte past))
]
  where
    by : (big x y : Bool) → nat_lt 15 (digit_value byte) ≡ big
        → (get_or (codes "0123456789abcdef") (digit_value byte) 0 == byte) ≡ x
        → (get_or (codes "0123456789ABCDEF") (digit_value byte) 0 == byte) ≡ y
        → (big || x || y) ≡ true
        → (get_or (codes "0123456789abcdef") (digit_value byte) 0 ≡ byte)
        ⊎ (get_or (codes "0123456789ABCDEF") (digit_value byte) 0 ≡ byte)
    by true x y b p q e = absurd (omega (arith, ltb-true 15 (digit_value byte) b))
    by false true y b p q e = inl (eqb-true _ byte p)
    by false false true b p q e = inr (eqb-true _ byte q)
    by false false false b p q e = absurd (false≢true e)

abbrev table_reads : List ℕ → ℕ → Bool
table_reads table zero = true
table_reads table (suc n) = (digit_value (get_or table n 0) == n) && table_reads table n

table_read : (table : List ℕ) (n d : ℕ) → table_reads table n ≡ true → d < n → digit_value (get_or table d 0) ≡ d
table_read table zero d e lt = absurd (omega arith)
table_read table (suc n) d e lt =
    let parts = and_parts (digit_value (get_or table n 0) == n) (table_reads table n) e in
    elim (cases_lt d n) [
      | inl below ↦ table_read table n d parts.1 below
      | inr top ↦ let same : d ≡ n = omega arith in rw same (eqb-true (digit_value (get_or table n 0)) n parts.0)
    ]

digit_read : (byte d : ℕ) → IsDigit byte d → digit_value byte ≡ d
digit_read byte d is = elim is.either [
  | inl low ↦ subst (λ (b : ℕ). digit_value b ≡ d) low (table_read (codes "0123456789abcdef") 16 d refl is.small)
  | inr up ↦ subst (λ (b : ℕ). digit_value b ≡ d) up (table_read (codes "0123456789ABCDEF") 16 d refl is.small)
]

-- ** hexadecimal

AllDigits-tested : (base : ℕ) (ds : List ℕ) → list_all (λ c. nat_lt (digit_value c) base) ds ≡ true → AllDigits base ds
AllDigits-tested base [] e = tt
AllDigits-tested base (c ∷ cs) e =
    let parts = and_parts (nat_lt (digit_value c) base) (list_all (λ c. nat_lt (digit_value c) base) cs) e in
    (ltb-true (digit_value c) base parts.0, AllDigits-tested base cs parts.1)

tested : (base : ℕ) (ds : List ℕ) → AllDigits base ds → list_all (λ c. nat_lt (digit_value c) base) ds ≡ true
tested base [] are = refl
tested base (c ∷ cs) are = rw (lt-ltb (digit_value c) base are.0, tested base cs are.1) refl

extends : (before : ℕ) (ds : List ℕ) → AllDigits 16 ds → Extends before ds (digits_value_after 16 before ds)
extends before [] are = refl
extends before (c ∷ cs) are =
    (digit_value c, digit_is c are.0, extends (before * 16 + digit_value c) cs are.1)

extended : (before : ℕ) (ds : List ℕ) (n : ℕ) → Extends before ds n
    → AllDigits 16 ds × (digits_value_after 16 before ds ≡ n)
extended before [] n is = (tt, sym is)
extended before (c ∷ cs) n is =
    let e = digit_read c is.0 is.1 in
    let rest = extended (before * 16 + is.0) cs n is.2 in (
      (subst (λ (v : ℕ). v < 16) (sym e) is.1.small, rest.0),
      ap (λ (v : ℕ). digits_value_after 16 (before * 16 + v) cs) e ∙ rest.1,
    )

-- ** numerals

numeral_is : (base : ℕ) (ds : List ℕ) (n : ℕ) → numeral base ds ≡ Some n
    → (1 ≤ length ds) × AllDigits base ds × (digits_value base ds ≡ n) × (n < 2 ^ 64)
unfolding numeral
numeral_is base ds n e = by (length ds == 0) (list_all (λ c. nat_lt (digit_value c) base) ds)
    (nat_lt (digits_value base ds) (2 ^ 64)) refl refl refl e
  where
    by : (empty all small : Bool) → (length ds == 0) ≡ empty → list_all (λ c. nat_lt (digit_value c) base) ds ≡ all
        → nat_lt (digits_value base ds) (2 ^ 64) ≡ small
        → cond (not empty && all && small) (Some (digits_value base ds)) None ≡ Some n
        → (1 ≤ length ds) × AllDigits base ds × (digits_value base ds ≡ n) × (n < 2 ^ 64)
    by true all small p q r e = absurd (cc e)
    by false false small p q r e = absurd (cc e)
    by false true false p q r e = absurd (cc e)
    by false true true p q r e =
        let same : digits_value base ds ≡ n = same_Some (digits_value base ds) n e in (
          omega (arith, eqb-false (length ds) 0 p),
          AllDigits-tested base ds q,
          same,
          subst (λ (v : ℕ). v < 2 ^ 64) same (ltb-true (digits_value base ds) (2 ^ 64) r),
        )

numeral_read : (base : ℕ) (ds : List ℕ) (n : ℕ) → 1 ≤ length ds → AllDigits base ds → digits_value base ds ≡ n
    → n < 2 ^ 64 → numeral base ds ≡ Some n
unfolding numeral
numeral_read base ds n some are same small =
    rw (
      ne_eqb (length ds) 0 (λ e. omega arith),
      tested base ds are,
      lt-ltb (digits_value base ds) (2 ^ 64) (subst (λ (v : ℕ). v < 2 ^ 64) (sym same) small),
    ) (ap Some same)

-- ** a word

begins : (word : List ℕ) → (starts_with nat_eq word (codes "0x") ≡ true → word ≡ codes "0x" ++ drop 2 word)
    × ((rest : List ℕ) → word ≡ codes "0x" ++ rest → starts_with nat_eq word (codes "0x") ≡ true)
begins word = starts_is Decides-eqb word (codes "0x") (starts_with nat_eq word (codes "0x")) refl

decided : (b : Bool) → (b ≡ true → ⊥) → b ≡ false
decided true never = absurd (never refl)
decided false never = refl

no_hexadecimal : (n : ℕ) → n < 2 ^ 64 → starts_with nat_eq (decimal n) (codes "0x") ≡ false
no_hexadecimal n small = decided (starts_with nat_eq (decimal n) (codes "0x")) (λ is.
    let are : AllDigits 10 (codes "0x" ++ drop 2 (decimal n)) =
    subst (AllDigits 10) ((begins (decimal n)).0 is) (decimal_is_IsNumeral n small).0.1 in
    omega (arith, are.1.0))

no_leading_zero : (n : ℕ) → n < 2 ^ 64 → has_leading_zero (decimal n) ≡ false
unfolding digits
no_leading_zero zero small = refl
no_leading_zero (suc n) small = decided (has_leading_zero (decimal (suc n))) (λ is.
    let parts = and_parts (get_or (decimal (suc n)) 0 0 == 48) (nat_lt 1 (length (decimal (suc n)))) is in
    omega (arith, first_decimal (suc n) (omega arith) small, eqb-true (get_or (decimal (suc n)) 0 0) 48 parts.0))

abbrev chosen : Bool → Bool → List ℕ → Option ℕ
chosen hexadecimal zeros word = cond hexadecimal (numeral 16 (drop 2 word)) (cond zeros None (numeral 10 word))

read_hexadecimal : (word : List ℕ) (n : ℕ) → starts_with nat_eq word (codes "0x") ≡ true
    → numeral 16 (drop 2 word) ≡ Some n → Writes word n
read_hexadecimal word n is e =
    let parts = numeral_is 16 (drop 2 word) n e in
    record {
      small = parts.3;
      form = inr (record {
        digits = drop 2 word;
        written = (begins word).0 is;
        some = parts.0;
        value = subst (Extends 0 (drop 2 word)) parts.2 (extends 0 (drop 2 word) parts.1);
      });
    }

read_decimal : (word : List ℕ) (n : ℕ) → has_leading_zero word ≡ false → numeral 10 word ≡ Some n → Writes word n
read_decimal word n lead e =
    let parts = numeral_is 10 word n e in
    let alone : get_or word 0 0 ≡ 48 → length word ≡ 1 = λ first. one first (nat_lt 1 (length word)) refl parts.0 in
    record {
      small = parts.3;
      form = inl (sym (decimal-digits_value (numerals_by_value (AllDigits 10) tells_digits) word parts.1
          (omega (arith, parts.0)) alone (subst (λ (v : ℕ). v < 2 ^ 64) (sym parts.2) parts.3))
          ∙ ap decimal parts.2);
    }
  where
    one : get_or word 0 0 ≡ 48 → (long : Bool) → nat_lt 1 (length word) ≡ long → 1 ≤ length word → length word ≡ 1
    one first true h some = absurd (false≢true (sym lead ∙ rw (eq-eqb (get_or word 0 0) 48 first, h) refl))
    one first false h some = omega (arith, ltb-false 1 (length word) h)

reads : (word : List ℕ) (n : ℕ) → number word ≡ Some n → Writes word n
unfolding number
reads word n e = by (starts_with nat_eq word (codes "0x")) (has_leading_zero word) refl refl e
  where
    by : (hexadecimal zeros : Bool) → starts_with nat_eq word (codes "0x") ≡ hexadecimal → has_leading_zero word ≡ zeros
        → chosen hexadecimal zeros word ≡ Some n → Writes word n
    by true zeros p q e = read_hexadecimal word n p e
    by false true p q e = absurd (cc e)
    by false false p q e = read_decimal word n q e

written_read : (word : List ℕ) (n : ℕ) → Writes word n → number word ≡ Some n
unfolding number
written_read word n is = elim is.form [
  | inl plain ↦ subst (λ (w : List ℕ). number w ≡ Some n) (sym plain)
      ((λ i. chosen (no_hexadecimal n is.small i) (no_leading_zero n is.small i) (decimal n))
      ∙ numeral_read 10 (decimal n) n (omega (arith, (decimal_is_IsNumeral n is.small).0.0))
      (decimal_is_IsNumeral n is.small).0.1 (decimal_is_IsNumeral n is.small).1 is.small)
  | inr hex ↦
      let parts = extended 0 hex.digits n hex.value in
      subst (λ (w : List ℕ). number w ≡ Some n) (sym hex.written)
      ((λ i. chosen ((begins (codes "0x" ++ hex.digits)).1 hex.digits refl i)
      (has_leading_zero (codes "0x" ++ hex.digits)) (codes "0x" ++ hex.digits))
      ∙ numeral_read 16 hex.digits n hex.some parts.0 parts.1 is.small)
]

-- ** the law

pub writes_read : (word : List ℕ) (n : ℕ) → (number word ≡ Some n) ↔ Writes word n
writes_read word n = (reads word n, written_read word n)
