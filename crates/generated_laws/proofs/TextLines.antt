-- How a text that begins with a line of known words is read.
use Rattle.std.proofs.Common.{◌≡◌, ◌∙◌, ℕ, ◌+◌, Bool, true, false, ◌&&◌, ◌==◌, nat_le, List, [], ◌∷◌}
use Rattle.std.proofs.Common.{◌++◌, None, filter, flat_map, append-nil, refl, ap, arith}
use Rattle.std.specs.List.{All, list_all, slice_split}
use Rattle.std.proofs.lemmas.Bool.{and_from, and_parts}
use Rattle.std.proofs.lemmas.Bool.Decides.{nat_tests}
use Rattle.std.proofs.lemmas.List.Elements.{All-nil, All-cons}
use Rattle.std.proofs.lemmas.List.Folds.{list_all-append}
use Rattle.std.proofs.lemmas.List.Splits.{slice_split_at, slice_split_none}
use Rattle.job_text.specs.Drafts.{Declared}
use Rattle.job_text.specs.Grammar.{heading_of}
use Rattle.job_text.specs.Jobs.{job_declared, job_from}
use Rattle.job_text.specs.LineEffects.{with_heading, with_text}
use Rattle.job_text.specs.LineFaults.{fault_of, fault_under}
use Rattle.job_text.specs.Words.{has_bytes, is_printable, is_skipped, is_text, lines_of, words_of}

-- ** words

-- a character that stands in words
abbrev pub is_word_byte : ℕ → Bool
is_word_byte b = nat_le 33 b && nat_le b 126

-- some such characters
abbrev pub is_word : List ℕ → Bool
is_word word = has_bytes word && list_all is_word_byte word

-- each word with a space before it
abbrev pub spaced : List (List ℕ) → List ℕ
spaced words = flat_map (λ word. 32 ∷ word) words

-- the line that has these words, with one space between two
abbrev pub spelled : List (List ℕ) → List ℕ
spelled [] = []
spelled (word ∷ words) = word ++ spaced words

-- ** the words of a line that is so spelled

no_space : (b : ℕ) → is_word_byte b ≡ true → (b == 32) ≡ false
no_space b is = grind (arith, nat_tests)

is_shown : (b : ℕ) → is_word_byte b ≡ true → is_printable b ≡ true
is_shown b is = grind (arith, nat_tests)

no_spaces : (word : List ℕ) → list_all is_word_byte word ≡ true → All (λ b. (b == 32) ≡ false) word
no_spaces [] is = All-nil (λ b. (b == 32) ≡ false)
no_spaces (b ∷ bs) is =
    let parts = and_parts (is_word_byte b) (list_all is_word_byte bs) is in
    All-cons (λ b. (b == 32) ≡ false) b bs (no_space b parts.0) (no_spaces bs parts.1)

all_shown : (word : List ℕ) → list_all is_word_byte word ≡ true → is_text word ≡ true
all_shown [] is = refl
all_shown (b ∷ bs) is =
    let parts = and_parts (is_word_byte b) (list_all is_word_byte bs) is in
    and_from (is_printable b) (is_text bs) (is_shown b parts.0) (all_shown bs parts.1)

-- what is known of the first word, and of the others
word_parts : (word : List ℕ) (words : List (List ℕ)) → list_all is_word (word ∷ words) ≡ true
    → (has_bytes word ≡ true) × (list_all is_word_byte word ≡ true) × (list_all is_word words ≡ true)
word_parts word words are =
    let parts = and_parts (is_word word) (list_all is_word words) are in
    let own = and_parts (has_bytes word) (list_all is_word_byte word) parts.0 in
    (own.0, own.1, parts.1)

-- what stands between the spaces
split_words : (word : List ℕ) (words : List (List ℕ)) → list_all is_word (word ∷ words) ≡ true
    → slice_split (λ b. b == 32) (spelled (word ∷ words)) ≡ word ∷ words
split_words word [] are =
    ap (slice_split (λ b. b == 32)) (append-nil word)
    ∙ slice_split_none (λ b. b == 32) word (no_spaces word (word_parts word [] are).1)
split_words word (next ∷ words) are =
    let parts = word_parts word (next ∷ words) are in
    slice_split_at (λ b. b == 32) word 32 (spelled (next ∷ words)) (no_spaces word parts.1) refl
    ∙ ap (λ more. word ∷ more) (split_words next words parts.2)

all_kept : (words : List (List ℕ)) → list_all is_word words ≡ true → filter has_bytes words ≡ words
all_kept [] are = refl
all_kept (word ∷ words) are =
    let parts = word_parts word words are in
    let has : has_bytes word ≡ true = parts.0 in
    rw has (ap (λ more. word ∷ more) (all_kept words parts.2))

words_are : (word : List ℕ) (words : List (List ℕ)) → list_all is_word (word ∷ words) ≡ true
    → words_of (spelled (word ∷ words)) ≡ word ∷ words
unfolding words_of
words_are word words are = ap (filter has_bytes) (split_words word words are) ∙ all_kept (word ∷ words) are

-- ** the characters of such a line

spaced_text : (words : List (List ℕ)) → list_all is_word words ≡ true → is_text (spaced words) ≡ true
spaced_text [] are = refl
spaced_text (word ∷ words) are =
    let parts = word_parts word words are in
    list_all-append is_printable word (spaced words)
    ∙ and_from (is_text word) (is_text (spaced words)) (all_shown word parts.1) (spaced_text words parts.2)

text_is : (word : List ℕ) (words : List (List ℕ)) → list_all is_word (word ∷ words) ≡ true
    → is_text (spelled (word ∷ words)) ≡ true
text_is word words are = spaced_text (word ∷ words) are

-- ** lines

no_feed : (b : ℕ) → is_printable b ≡ true → (b == 10) ≡ false
no_feed b is = grind (arith, nat_tests)

no_feeds : (line : List ℕ) → is_text line ≡ true → All (λ b. (b == 10) ≡ false) line
no_feeds [] is = All-nil (λ b. (b == 10) ≡ false)
no_feeds (b ∷ bs) is =
    let parts = and_parts (is_printable b) (is_text bs) is in
    All-cons (λ b. (b == 10) ≡ false) b bs (no_feed b parts.0) (no_feeds bs parts.1)

-- what ends at a line feed is a line
first_line : (line rest : List ℕ) → is_text line ≡ true → lines_of (line ++ 10 ∷ rest) ≡ line ∷ lines_of rest
first_line line rest is = slice_split_at (λ b. b == 10) line 10 rest (no_feeds line is) refl

fault_is : (d : Declared) (number : ℕ) (line : List ℕ) (words : List (List ℕ)) → is_skipped line ≡ false
    → is_text line ≡ true → words_of line ≡ words
    → fault_of d number line ≡ fault_under d number (heading_of words) words
unfolding fault_of
fault_is d number line words read shown are = rw (read, shown, are) refl

effect_is : (d : Declared) (line : List ℕ) (words : List (List ℕ)) → is_skipped line ≡ false → words_of line ≡ words
    → with_text line d ≡ with_heading (heading_of words) words d
unfolding with_text
effect_is d line words read are = rw (read, are) refl

-- one line of a text
line_read : (d next : Declared) (number : ℕ) (line : List ℕ) (lines : List (List ℕ)) → fault_of d number line ≡ None
    → with_text line d ≡ next → job_from d number (line ∷ lines) ≡ job_from next (number + 1) lines
unfolding job_from
line_read d next number line lines none is = rw (none, is) refl

-- a line of these words has no fault and adds what is told
pub record Adds (d : Declared) (number : ℕ) (words : List (List ℕ)) (next : Declared) : Type 0 where
  pub faultless : fault_under d number (heading_of words) words ≡ None
  pub effect : with_heading (heading_of words) words d ≡ next

-- a text that begins with the line comes to what the rest comes to behind it
pub line_adds : (d next : Declared) (number : ℕ) (word : List ℕ) (words : List (List ℕ)) (rest : List ℕ)
    → list_all is_word (word ∷ words) ≡ true → is_skipped (spelled (word ∷ words)) ≡ false
    → Adds d number (word ∷ words) next
    → job_from d number (lines_of (spelled (word ∷ words) ++ 10 ∷ rest)) ≡ job_from next (number + 1) (lines_of rest)
line_adds d next number word words rest are read adds =
    let line : List ℕ = spelled (word ∷ words) in
    ap (job_from d number) (first_line line rest (text_is word words are))
    ∙ line_read d next number line (lines_of rest)
    (fault_is d number line (word ∷ words) read (text_is word words are) (words_are word words are) ∙ adds.faultless)
    (effect_is d line (word ∷ words) read (words_are word words are) ∙ adds.effect)

-- nothing stands behind the last line feed
pub nothing_left : (d : Declared) (number : ℕ) → job_from d number (lines_of []) ≡ job_declared d
unfolding job_from fault_of with_text
nothing_left d number = refl
