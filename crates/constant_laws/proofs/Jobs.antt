-- The limits of jobs.
use Rattle.std.proofs.Common.{◌≡◌, ◌↔◌, ◌<◌, ◌≤◌, ◌&&◌, ◌||◌, ◌==◌, ℕ, Bool, true, false, List, Option, Some, length}
use Rattle.std.proofs.Common.{refl, sym, ap, subst, arith}
use Rattle.std.specs.Prelude.{if◌then◌else◌, is_none, nat_le, nat_lt, option_and_then, None}
use Rattle.std.proofs.lemmas.Bool.Decides.{nat_tests}
use Rattle.job_text.specs.Drafts.{Declared, image_count, nothing_declared}
use Rattle.job_text.specs.Grammar.{heading_of, kind_heading, verb_heading}
use Rattle.job_text.specs.Numbers.{number, numeral}
use Rattle.constant_laws.specs.Jobs.{JobsAreSmall, fuel_line, image_line, miscounts, misnumbers, peek_line}
use Rattle.constant_laws.specs.Jobs.{threads_line}

between : (low high n : ℕ) → ((nat_le low n && nat_le n high) ≡ true) ↔ ((low ≤ n) × (n ≤ high))
between low high n =
    (λ is. (grind (arith, nat_tests, is), grind (arith, nat_tests, is)), λ is. grind (arith, nat_tests, is.0, is.1))

at_most : (high n : ℕ) → (nat_le n high ≡ true) ↔ (n ≤ high)
at_most high n = (λ is. grind (arith, nat_tests, is), λ is. grind (arith, nat_tests, is))

-- the test of a line that has a heading
lifted : (t r : Bool) (P : Type 0) → (t ≡ r) ↔ P → (Some t ≡ Some r) ↔ P
lifted t r P is = (λ same. is.0 cc, λ holds. ap Some (is.1 holds))

past : (high n : ℕ) → (nat_lt high n ≡ true) ↔ (high < n)
past high n = (λ is. grind (arith, nat_tests, is), λ is. grind (arith, nat_tests, is))

equal : (n m : ℕ) → ((n == m) ≡ true) ↔ (n ≡ m)
equal n m = (λ is. grind (arith, nat_tests, is), λ is. grind (arith, nat_tests, is))

or_false : (t : Bool) → (t || false) ≡ t
or_false true = refl
or_false false = refl

abbrev if_within : ℕ → ℕ → Option ℕ → Option ℕ
if_within low high = option_and_then (λ value. if nat_le low value && nat_le value high then Some value else None)

-- a number that is not refused lies in its range
within : (low high n : ℕ) → (is_none (if_within low high (Some n)) ≡ false) ↔ ((low ≤ n) × (n ≤ high))
within low high n = by (nat_le low n && nat_le n high) refl
  where
    by : (t : Bool) → (nat_le low n && nat_le n high) ≡ t
        → (is_none (if_within low high (Some n)) ≡ false) ↔ ((low ≤ n) × (n ≤ high))
    by true e = (λ is. (between low high n).0 e, λ is. rw e refl)
    by false e = (
      λ is. absurd (let told : is_none (if_within low high (Some n)) ≡ true = rw e refl in cc),
      λ is. absurd (let told = (between low high n).1 is in cc),
    )

accepted : (low high : ℕ) (word : List ℕ) (n : ℕ) → number word ≡ Some n
    → (Some (is_none (if_within low high (number word))) ≡ Some false) ↔ ((low ≤ n) × (n ≤ high))
accepted low high word n is =
    lifted (is_none (if_within low high (number word))) false ((low ≤ n) × (n ≤ high))
    (subst (λ (o : Option ℕ). (is_none (if_within low high o) ≡ false) ↔ ((low ≤ n) × (n ≤ high))) (sym is)
    (within low high n))

images : (d : Declared) (name object : List ℕ)
    → (miscounts d 1 (image_line name object) ≡ Some true) ↔ (image_count d ≡ 64)
unfolding heading_of kind_heading
images d name object = lifted ((image_count d == 64) || false) true (image_count d ≡ 64)
    (subst (λ (t : Bool). (t ≡ true) ↔ (image_count d ≡ 64)) (sym (or_false (image_count d == 64)))
    (equal (image_count d) 64))

lines : (d : Declared) (line : ℕ) (word : List ℕ)
    → (miscounts d line (threads_line word) ≡ Some true) ↔ (65536 < line)
unfolding heading_of
lines d line word = lifted (nat_lt 65536 line) true (65536 < line) (past 65536 line)

threads : (d : Declared) (word : List ℕ) (n : ℕ) → number word ≡ Some n
    → (misnumbers d (threads_line word) ≡ Some false) ↔ ((1 ≤ n) × (n ≤ 64))
unfolding heading_of
threads d word n is = accepted 1 64 word n is

fuel : (d : Declared) (word : List ℕ) (n : ℕ) → number word ≡ Some n
    → (misnumbers d (fuel_line word) ≡ Some false) ↔ ((1 ≤ n) × (n ≤ 4294967295))
unfolding heading_of
fuel d word n is = accepted 1 4294967295 word n is

peek : (image symbol word : List ℕ) (n : ℕ) → number word ≡ Some n
    → (misnumbers nothing_declared (peek_line image symbol word) ≡ Some false) ↔ (n ≤ 4096)
unfolding heading_of verb_heading number numeral
peek image symbol word n is =
    let found = accepted 0 4096 word n is in (λ good. (found.0 good).1, λ low. found.1 (omega arith, low))

pub jobs_are : JobsAreSmall
jobs_are = record {
  image_name = λ word. between 1 64 (length word);
  letters = refl;
  name = λ word. at_most 255 (length word);
  images = images;
  lines = lines;
  threads = threads;
  fuel = fuel;
  no_fuel = λ program. refl;
  peek = peek;
}
