-- The names of a generated text.
use Rattle.std.proofs.Common.{◌≡◌, ◌∙◌, ℕ, zero, suc, ◌+◌, ◌<◌, ◌≤◌, true, false, not, List, [], ◌∷◌, ◌++◌}
use Rattle.std.proofs.Common.{codes, length, map, flat_map, refl, ap, arith, decimal, length-append}
use Rattle.std.specs.List.{list_all, list_any, range_with_len}
use Rattle.std.proofs.lemmas.Bool.{and_from, le-leb, ne_eqb}
use Rattle.std.proofs.lemmas.Fmt.{length-decimal-le}
use Rattle.std.proofs.lemmas.List.Folds.{list_all-append}
use Rattle.generated_job.specs.Generated.{function_name, object_name}
use Rattle.job_text.specs.Grammar.{is_short_name}
use Rattle.job_text.specs.Words.{has_bytes}
use Rattle.generated_laws.proofs.TextLines.{is_word, is_word_byte, spaced}
use Rattle.generated_laws.proofs.TextNumbers.{decimal_word}

-- some characters of words are a word
pub is_word_by : (word : List ℕ) → 0 < length word → list_all is_word_byte word ≡ true → is_word word ≡ true
is_word_by word some are =
    let has : has_bytes word ≡ true = rw (ne_eqb (length word) 0 (λ none. omega arith)) refl in
    and_from (has_bytes word) (list_all is_word_byte word) has are

-- ** functions

pub function_word : (i : ℕ) → i ≤ 1000 → is_word (function_name i) ≡ true
unfolding function_name
function_word i small = is_word_by (102 ∷ decimal i) (omega arith) (decimal_word i (omega arith))

pub function_short : (i : ℕ) → i ≤ 1000 → is_short_name (function_name i) ≡ true
unfolding function_name
function_short i small =
    let few : length (decimal i) ≤ 4 = length-decimal-le 4 i (omega arith) (omega arith) (omega arith) in
    le-leb (length (102 ∷ decimal i)) 255 (omega arith)

-- ** objects

object_word : (i : ℕ) → i ≤ 1000 → is_word (object_name i) ≡ true
unfolding object_name
object_word i small =
    is_word_by (103 ∷ (decimal i ++ codes ".o")) (omega arith)
    (list_all-append is_word_byte (decimal i) (codes ".o")
    ∙ and_from (list_all is_word_byte (decimal i)) true (decimal_word i (omega arith)) refl)

object_short : (i : ℕ) → i ≤ 1000 → is_short_name (object_name i) ≡ true
unfolding object_name
object_short i small =
    let few : length (decimal i) ≤ 4 = length-decimal-le 4 i (omega arith) (omega arith) (omega arith) in
    le-leb (length (103 ∷ (decimal i ++ codes ".o"))) 255 (omega (arith, length-append (decimal i) (codes ".o")))

pub object_words : (k i : ℕ) → i + k ≤ 1001 → list_all is_word (map object_name (range_with_len i k)) ≡ true
object_words zero i below = refl
object_words (suc k) i below =
    and_from (is_word (object_name i)) (list_all is_word (map object_name (range_with_len (i + 1) k)))
    (object_word i (omega arith)) (object_words k (i + 1) (omega arith))

pub objects_short : (k i : ℕ) → i + k ≤ 1001
    → list_any (λ word. not (is_short_name word)) (map object_name (range_with_len i k)) ≡ false
objects_short zero i below = refl
objects_short (suc k) i below =
    let short : is_short_name (object_name i) ≡ true = object_short i (omega arith) in
    rw short (objects_short k (i + 1) (omega arith))

-- the names with a space before each
pub names_spaced : (is : List ℕ) → flat_map (λ i. codes " " ++ object_name i) is ≡ spaced (map object_name is)
names_spaced [] = refl
names_spaced (i ∷ is) = ap (λ more. (32 ∷ object_name i) ++ more) (names_spaced is)
