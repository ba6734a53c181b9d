-- Digits that are printed are read back, as the number that they were printed of.
use Rattle.std.proofs.Common.{◌≡◌, ◌∙◌, ℕ, zero, suc, ◌+◌, ◌*◌, ◌-◌, ◌/◌, ◌%◌, ◌^◌, ◌<◌, ◌≤◌, Bool, true, false, ◌&&◌}
use Rattle.std.proofs.Common.{◌==◌, cond, List, [], ◌∷◌, ◌++◌, length, replicate, Option, Some, None, unwrap_or}
use Rattle.std.proofs.Common.{inl, inr, refl, sym, ap, arith, mod-lt, lt-ltb, eqb-true}
use Rattle.std.proofs.Common.{pow-suc}
use Rattle.std.proofs.Common.{append-nil, get_or, div-lt_iff_lt-mul, length-append, eqb, eq-eqb, ne_eqb}
use Rattle.std.proofs.lemmas.List.{length-replicate}
use Rattle.std.proofs.lemmas.Bool.{and_parts, cases_eq, cases_lt}
use Rattle.std.proofs.lemmas.Nat.{div-add-mod'}
use Rattle.std.proofs.Math.Nat.{pow-zero}
use Rattle.std.specs.Fmt.{decimal, digits, digits_onto, digit_glyph}
use Rattle.hex.specs.Hex.{encode_lower, encode_with, lower_digits}
use Rattle.std.proofs.lemmas.List.Elements.{All-head, All-tail}
use Rattle.std.specs.Fmt.{char_count, padded_integral}
use Rattle.std.specs.List.{All}
use Rattle.transcript_text.specs.Texts.{hex16}
use Rattle.transcript_laws.specs.Laws.{IsByte}
use Rattle.transcript_laws.specs.Reader.{bytes_in, word_in}
use Rattle.transcript_laws.specs.Numerals.{digit_of, read_behind, read_number}

-- ** one digit

abbrev reads : ℕ → Bool
reads d = unwrap_or (digit_of (digit_glyph false d)) 99 == d

abbrev all_read : ℕ → Bool
all_read zero = true
all_read (suc n) = reads n && all_read n

all_read-at : (n d : ℕ) → all_read n ≡ true → d < n → reads d ≡ true
all_read-at zero d h lt = absurd (omega arith)
all_read-at (suc n) d h lt =
    let parts = and_parts (reads n) (all_read n) h in
    elim (cases_lt d n) [
      | inl below ↦ all_read-at n d parts.1 below
      | inr top ↦ let e : d ≡ n = omega arith in rw e parts.0
    ]

some_of : (o : Option ℕ) (d : ℕ) → d < 16 → unwrap_or o 99 ≡ d → o ≡ Some d
some_of (Some v) d lt e = ap Some e
some_of None d lt e = absurd (omega arith)

pub digit_reads : (d : ℕ) → d < 16 → digit_of (digit_glyph false d) ≡ Some d
digit_reads d lt = some_of _ d lt (eqb-true _ d (all_read-at 16 d refl lt))

-- ** digits

module _ (base n : ℕ) (acc : List ℕ) where
  onto_by : (k : ℕ) (is : Bool) → eqb (n / base) 0 ≡ is → digits_onto (suc k) base false n acc
      ≡ cond is (digit_glyph false (n % base) ∷ acc)
      (digits_onto k base false (n / base) (digit_glyph false (n % base) ∷ acc))
  onto_by k is e = ap (λ (b : Bool). cond b (digit_glyph false (n % base) ∷ acc)
      (digits_onto k base false (n / base) (digit_glyph false (n % base) ∷ acc))) e

  pub onto_last : (k : ℕ) → n / base ≡ 0 → digits_onto (suc k) base false n acc ≡ digit_glyph false (n % base) ∷ acc
  onto_last k e = onto_by k true (eq-eqb _ 0 e)

  pub onto_more : (k : ℕ) → (n / base ≡ 0 → ⊥) → digits_onto (suc k) base false n acc
      ≡ digits_onto k base false (n / base) (digit_glyph false (n % base) ∷ acc)
  onto_more k e = onto_by k false (ne_eqb _ 0 e)

pub onto_nothing : (base n : ℕ) → digits base false n ≡ digits_onto 64 base false n []
unfolding digits
onto_nothing base n = refl

module _ (base : ℕ) (low : 2 ≤ base) (high : base ≤ 16) where
  pub read_digit : (n byte d : ℕ) (more : List ℕ) → digit_of byte ≡ Some d → d < base
      → read_behind base (Some n) (byte ∷ more) ≡ read_behind base (Some (n * base + d)) more
  unfolding read_behind
  read_digit n byte d more is lt = rw (is, lt-ltb d base lt) refl

  read_one : (n d : ℕ) (more : List ℕ) → d < base
      → read_behind base (Some n) (digit_glyph false d ∷ more) ≡ read_behind base (Some (n * base + d)) more
  read_one n d more lt = read_digit n (digit_glyph false d) d more (digit_reads d (omega arith)) lt

  pub read_onto : (k n : ℕ) (acc : List ℕ) → n < base ^ k
      → read_behind base (Some 0) (digits_onto k base false n acc) ≡ read_behind base (Some n) acc
  read_onto zero n acc lt =
      ap (λ (m : ℕ). read_behind base (Some m) acc) {x = 0} {y = n} (omega (arith, pow-zero base))
  read_onto (suc k) n acc lt =
      let some : 0 < base = omega arith in
      let rest : n % base < base = mod-lt n some in
      let whole : n / base * base + n % base ≡ n = div-add-mod' n base in
      elim (cases_eq (n / base) 0) [
        | inl last ↦
            ap (read_behind base (Some 0)) (onto_last base n acc k last)
            ∙ read_one 0 (n % base) acc rest
            ∙ ap (λ (m : ℕ). read_behind base (Some m) acc) (ap (λ (q : ℕ). q * base + n % base) (sym last) ∙ whole)
        | inr more ↦
            ap (read_behind base (Some 0)) (onto_more base n acc k more)
            ∙ read_onto k (n / base) (digit_glyph false (n % base) ∷ acc)
            ((div-lt_iff_lt-mul some).1 (omega (arith, pow-suc base k)))
            ∙ read_one (n / base) (n % base) acc rest ∙ ap (λ (m : ℕ). read_behind base (Some m) acc) whole
      ]

  pub digits_read : (n : ℕ) → n < base ^ 64 → read_number base (digits base false n) ≡ Some n
  unfolding read_behind
  digits_read n lt = ap (read_number base) (onto_nothing base n) ∙ read_onto 64 n [] lt

  pub zeros_read : (k : ℕ) (more : List ℕ)
      → read_behind base (Some 0) (replicate k 48 ++ more) ≡ read_behind base (Some 0) more
  zeros_read zero more = refl
  zeros_read (suc k) more =
      let nothing : 0 * base + 0 ≡ 0 = omega arith in
      read_one 0 0 (replicate k 48 ++ more) (omega arith)
      ∙ ap (λ (m : ℕ). read_behind base (Some m) (replicate k 48 ++ more)) nothing ∙ zeros_read k more

pub decimal_read : (n : ℕ) → n < 2 ^ 64 → read_number 10 (decimal n) ≡ Some n
decimal_read n lt = digits_read 10 (omega arith) (omega arith) n (omega arith)

-- ** sixteen digits

onto_length : (k j n : ℕ) (acc : List ℕ) → n < 16 ^ suc j
    → length (digits_onto k 16 false n acc) ≤ suc j + length acc
onto_length zero j n acc lt = omega arith
onto_length (suc k) zero n acc lt = rw (onto_last 16 n acc k (omega arith)) (omega arith)
onto_length (suc k) (suc j) n acc lt = elim (cases_eq (n / 16) 0) [
  | inl last ↦ rw (onto_last 16 n acc k last) (omega arith)
  | inr more ↦ rw (onto_more 16 n acc k more)
      (omega (arith, onto_length k j (n / 16) (digit_glyph false (n % 16) ∷ acc) (omega (arith, pow-suc 16 (suc j)))))
]

digits_length : (n : ℕ) → n < 2 ^ 64 → length (digits 16 false n) ≤ 16
digits_length n lt = rw (onto_nothing 16 n) (omega (arith, onto_length 64 15 n [] (omega arith)))

pub hex16_is : (n : ℕ) → hex16 n
    ≡ replicate (16 - length (digits 16 false n)) 48 ++ digits 16 false n
unfolding padded_integral char_count
hex16_is n =
    let short : 16 - length (digits 16 false n) - 0 - 0 ≡ 16 - length (digits 16 false n) = omega arith in
    ap (λ (k : ℕ). replicate k 48 ++ (digits 16 false n ++ [])) short
    ∙ ap (λ (ds : List ℕ). replicate (16 - length (digits 16 false n)) 48 ++ ds) (append-nil (digits 16 false n))

hex16_length : (n : ℕ) → n < 2 ^ 64 → length (hex16 n) ≡ 16
hex16_length n lt = rw (hex16_is n) (omega (
  arith,
  digits_length n lt,
  length-append (replicate (16 - length (digits 16 false n)) 48) (digits 16 false n),
  length-replicate {A = ℕ} (16 - length (digits 16 false n)) 48,
))

pub word_read : (n : ℕ) → n < 2 ^ 64 → word_in (hex16 n) ≡ Some n
word_read n lt =
    ap (λ (l : ℕ). cond (l == 16) (read_number 16 (hex16 n)) None) (hex16_length n lt)
    ∙ ap (read_number 16) (hex16_is n)
    ∙ zeros_read 16 (omega arith) (omega arith) (16 - length (digits 16 false n)) (digits 16 false n)
    ∙ digits_read 16 (omega arith) (omega arith) n (omega arith)

-- ** bytes

-- the table of `encode_lower` has these digits
abbrev is_digit_at : ℕ → Bool
is_digit_at d = unwrap_or (digit_of (get_or lower_digits d 0)) 99 == d

abbrev all_digits : ℕ → Bool
all_digits zero = true
all_digits (suc n) = is_digit_at n && all_digits n

all_digits-at : (n d : ℕ) → all_digits n ≡ true → d < n → is_digit_at d ≡ true
all_digits-at zero d h lt = absurd (omega arith)
all_digits-at (suc n) d h lt =
    let parts = and_parts (is_digit_at n) (all_digits n) h in
    elim (cases_lt d n) [
      | inl below ↦ all_digits-at n d parts.1 below
      | inr top ↦ let e : d ≡ n = omega arith in rw e parts.0
    ]

table_reads : (d : ℕ) → d < 16 → digit_of (get_or lower_digits d 0) ≡ Some d
table_reads d lt = some_of _ d lt (eqb-true _ d (all_digits-at 16 d refl lt))

pair_read : (b : ℕ) → b < 256
    → read_number 16 (get_or lower_digits (b / 16) 0 ∷ get_or lower_digits (b % 16) 0 ∷ []) ≡ Some b
unfolding read_behind
pair_read b lt =
    let first : b / 16 < 16 = omega arith in
    let second : b % 16 < 16 = omega arith in
    let whole : (0 * 16 + b / 16) * 16 + b % 16 ≡ b = omega arith in
    read_digit 16 (omega arith) (omega arith) 0 (get_or lower_digits (b / 16) 0) (b / 16)
    (get_or lower_digits (b % 16) 0 ∷ []) (table_reads (b / 16) first) first
    ∙ read_digit 16 (omega arith) (omega arith) (0 * 16 + b / 16) (get_or lower_digits (b % 16) 0) (b % 16) []
    (table_reads (b % 16) second) second
    ∙ ap Some whole

pub bytes_read : (bytes : List ℕ) → All IsByte bytes → bytes_in (encode_lower bytes) ≡ Some bytes
unfolding bytes_in encode_with
bytes_read [] fit = refl
bytes_read (b ∷ more) fit =
    rw (pair_read b (All-head IsByte b more fit), bytes_read more (All-tail IsByte b more fit)) refl
