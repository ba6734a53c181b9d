-- A line's words are those that its spaces part.
use Rattle.std.proofs.Common.{◌≡◌, ◌≢◌, ◌∙◌, ℕ, zero, suc, ◌<◌, ◌≤◌, Bool, true, false, not, ◌==◌, cond}
use Rattle.std.proofs.Common.{List, [], ◌∷◌, ◌++◌, length, filter, refl, sym, ap, subst, arith, length-append}
use Rattle.std.proofs.Common.{eqb-true, leb-true, le-leb, ne_eqb}
use Rattle.std.specs.Prelude.{nat_le}
use Rattle.std.specs.List.{All}
use Rattle.std.proofs.lemmas.Bool.{and_from, and_parts, eqb-false}
use Rattle.std.proofs.lemmas.List.Elements.{All-cons, All-head, All-nil, All-tail, All-weaker}
use Rattle.std.proofs.lemmas.List.Splits.{slice_split_at, slice_split_none}
use Rattle.job_text.specs.Words.{has_bytes, is_printable, is_text, words_of}
use Rattle.job_grammar_laws.specs.Grammar.{IsMark, IsWord, Spaced, End, Space, Last, Word}

-- ** where a byte stands first

-- the byte c stands nowhere, or there is a first place
pub data Cut (c : ℕ) (bytes : List ℕ) : Type 0 where
  Whole : All (λ b. (b == c) ≡ false) bytes → Cut c bytes
  At : (front back : List ℕ) → All (λ b. (b == c) ≡ false) front → bytes ≡ front ++ c ∷ back → Cut c bytes

cut_more : (c b : ℕ) (bytes : List ℕ) (is : Bool) → (b == c) ≡ is → Cut c bytes → Cut c (b ∷ bytes)
cut_more c b bytes true e cut = At [] bytes (All-nil (λ x. (x == c) ≡ false)) (ap (λ x. x ∷ bytes) (eqb-true b c e))
cut_more c b bytes false e (Whole none) = Whole (All-cons (λ x. (x == c) ≡ false) b bytes e none)
cut_more c b bytes false e (At front back none is) =
    At (b ∷ front) back (All-cons (λ x. (x == c) ≡ false) b front e none) (ap (λ xs. b ∷ xs) is)

pub cut : (c : ℕ) (bytes : List ℕ) → Cut c bytes
cut c [] = Whole (All-nil (λ x. (x == c) ≡ false))
cut c (b ∷ bytes) = cut_more c b bytes (b == c) refl (cut c bytes)

pub others : (c : ℕ) (bytes : List ℕ) → All (λ b. b ≢ c) bytes → All (λ b. (b == c) ≡ false) bytes
others c bytes are = All-weaker (λ b. b ≢ c) (λ b. (b == c) ≡ false) (λ b differs. ne_eqb b c differs) bytes are

pub no_others : (c : ℕ) (bytes : List ℕ) → All (λ b. (b == c) ≡ false) bytes → All (λ b. b ≢ c) bytes
no_others c bytes are = All-weaker (λ b. (b == c) ≡ false) (λ b. b ≢ c) (λ b e. eqb-false b c e) bytes are

-- ** printed bytes

text_parts : (front back : List ℕ) → is_text (front ++ back) ≡ true → (is_text front ≡ true) × (is_text back ≡ true)
text_parts [] back e = (refl, e)
text_parts (b ∷ front) back e =
    let parts = and_parts (is_printable b) (is_text (front ++ back)) e in
    let rest = text_parts front back parts.1 in
    (and_from (is_printable b) (is_text front) parts.0 rest.0, rest.1)

text_from : (front back : List ℕ) → is_text front ≡ true → is_text back ≡ true → is_text (front ++ back) ≡ true
text_from [] back e f = f
text_from (b ∷ front) back e f =
    let parts = and_parts (is_printable b) (is_text front) e in
    and_from (is_printable b) (is_text (front ++ back)) parts.0 (text_from front back parts.1 f)

-- a printed byte that is no space is a mark
mark : (b : ℕ) → is_printable b ≡ true → (b == 32) ≡ false → IsMark b
mark b printable other =
    let parts = and_parts (nat_le 32 b) (nat_le b 126) printable in
    (omega (arith, leb-true 32 b parts.0, eqb-false b 32 other), leb-true b 126 parts.1)

marks : (word : List ℕ) → is_text word ≡ true → All (λ b. (b == 32) ≡ false) word → All IsMark word
marks [] printable others = All-nil IsMark
marks (b ∷ word) printable others =
    let parts = and_parts (is_printable b) (is_text word) printable in
    All-cons IsMark b word (mark b parts.0 (All-head (λ x. (x == 32) ≡ false) b word others))
    (marks word parts.1 (All-tail (λ x. (x == 32) ≡ false) b word others))

marks_printed : (word : List ℕ) → All IsMark word → is_text word ≡ true
marks_printed [] are = refl
marks_printed (b ∷ word) are =
    let is = All-head IsMark b word are in
    and_from (is_printable b) (is_text word)
    (and_from (nat_le 32 b) (nat_le b 126) (le-leb 32 b (omega (arith, is.0))) (le-leb b 126 is.1))
    (marks_printed word (All-tail IsMark b word are))

no_space : (word : List ℕ) → All IsMark word → All (λ b. (b == 32) ≡ false) word
no_space word are =
    All-weaker IsMark (λ b. (b == 32) ≡ false) (λ b is. ne_eqb b 32 (λ e. omega (arith, is.0))) word are

with_bytes : (word : List ℕ) → 1 ≤ length word → has_bytes word ≡ true
with_bytes [] some = absurd (omega arith)
with_bytes (b ∷ word) some = ap not (ne_eqb (length (b ∷ word)) 0 (λ e. omega arith))

-- ** words

is_word : (word : List ℕ) → 1 ≤ length word → is_text word ≡ true → All (λ b. (b == 32) ≡ false) word → IsWord word
is_word word some printable others = record { some = some; marks = marks word printable others }

words_whole : (word : List ℕ) → All (λ b. (b == 32) ≡ false) word → words_of word ≡ filter has_bytes (word ∷ [])
unfolding words_of
words_whole word none = ap (filter has_bytes) (slice_split_none (λ b. b == 32) word none)

words_cut : (front back : List ℕ) → All (λ b. (b == 32) ≡ false) front
    → words_of (front ++ 32 ∷ back) ≡ cond (has_bytes front) (front ∷ words_of back) (words_of back)
unfolding words_of
words_cut front back none = ap (filter has_bytes) (slice_split_at (λ b. b == 32) front 32 back none refl)

spaced_word : (word : List ℕ) → is_text word ≡ true → All (λ b. (b == 32) ≡ false) word
    → Spaced word (filter has_bytes (word ∷ []))
spaced_word [] printable none = End
spaced_word (b ∷ word) printable none =
    subst (λ (t : Bool). Spaced (b ∷ word) (cond t ((b ∷ word) ∷ []) [])) (sym (with_bytes (b ∷ word) (omega arith)))
    (Last (b ∷ word) (is_word (b ∷ word) (omega arith) printable none))

spaced_more : (front back : List ℕ) → is_text front ≡ true → All (λ b. (b == 32) ≡ false) front
    → Spaced back (words_of back)
    → Spaced (front ++ 32 ∷ back) (cond (has_bytes front) (front ∷ words_of back) (words_of back))
spaced_more [] back printable none rest = Space back (words_of back) rest
spaced_more (b ∷ front) back printable none rest =
    subst (λ (t : Bool). Spaced ((b ∷ front) ++ 32 ∷ back) (cond t ((b ∷ front) ∷ words_of back) (words_of back)))
    (sym (with_bytes (b ∷ front) (omega arith)))
    (Word (b ∷ front) back (words_of back) (is_word (b ∷ front) (omega arith) printable none) rest)

spaced_by : (n : ℕ) (line : List ℕ) → length line < n → is_text line ≡ true → Cut 32 line → Spaced line (words_of line)
spaced_by zero line short printable found = absurd (omega arith)
spaced_by (suc n) line short printable (Whole none) =
    subst (Spaced line) (sym (words_whole line none)) (spaced_word line printable none)
spaced_by (suc n) line short printable (At front back none is) =
    let parts = text_parts front (32 ∷ back) (subst (λ (l : List ℕ). is_text l ≡ true) is printable) in
    let shorter : length back < n = omega (arith, short, ap length is, length-append front (32 ∷ back)) in
    subst (λ (l : List ℕ). Spaced l (words_of l)) (sym is)
    (subst (Spaced (front ++ 32 ∷ back)) (sym (words_cut front back none))
    (spaced_more front back parts.0 none (spaced_by n back shorter parts.1 (cut 32 back))))

-- a printed line is spaced words
pub spaced : (line : List ℕ) → is_text line ≡ true → Spaced line (words_of line)
spaced line printable = spaced_by (suc (length line)) line (omega arith) printable (cut 32 line)

-- and spaced words are printed, and read
pub spaced_read : (line : List ℕ) (words : List (List ℕ)) → Spaced line words
    → (is_text line ≡ true) × (words_of line ≡ words)
unfolding words_of
spaced_read line words End = (refl, refl)
spaced_read line words (Space more rest is) = spaced_read more rest is
spaced_read line words (Last word is) = (
  marks_printed word is.marks,
  words_whole word (no_space word is.marks) ∙ ap (λ t. cond t (word ∷ []) []) (with_bytes word is.some),
)
spaced_read line words (Word word more rest is are) =
    let read = spaced_read more rest are in (
      text_from word (32 ∷ more) (marks_printed word is.marks) read.0,
      words_cut word more (no_space word is.marks)
          ∙ ap (λ t. cond t (word ∷ words_of more) (words_of more)) (with_bytes word is.some)
          ∙ ap (λ xs. word ∷ xs) read.1,
    )

-- each of spaced words is a word
pub spaced_words : (line : List ℕ) (words : List (List ℕ)) → Spaced line words → All IsWord words
spaced_words line words End = All-nil IsWord
spaced_words line words (Space more rest is) = spaced_words more rest is
spaced_words line words (Last word is) = All-cons IsWord word [] is (All-nil IsWord)
spaced_words line words (Word word more rest is are) = All-cons IsWord word rest is (spaced_words more rest are)
