-- The bytes of one word or two.
use Rattle.std.proofs.Common.{◌≡◌, ◌∙◌, ◌+◌, ◌≤◌, ℕ, List, ◌++◌, length, Option, Some, None, sym, ap, subst, arith}
use Rattle.std.proofs.Common.{length-append, append-nil}
use Rattle.elf_records.specs.Fields.{bytes_of, splice}
use Rattle.elf_records.specs.Laws.{length-bytes_of, splice_more}
use Rattle.loaded_modules.specs.declared.relocating.Words.{Words}
use Rattle.loaded_modules.specs.Words.{words_bytes, second_bytes, IsWindow}

long-by : (first : ℕ) (second : Option ℕ) (word : ℕ) → second ≡ Some word
    → length (bytes_of 8 first ++ second_bytes second) ≡ 16
long-by first second word is =
    ap (λ o. length (bytes_of 8 first ++ second_bytes o)) is
    ∙ length-append (bytes_of 8 first) (bytes_of 8 word)
    ∙ (let one = length-bytes_of 8 first in let two = length-bytes_of 8 word in omega (arith, one, two))

short-by : (first : ℕ) (second : Option ℕ) → second ≡ None → length (bytes_of 8 first ++ second_bytes second) ≡ 8
short-by first second is =
    ap (λ o. length (bytes_of 8 first ++ second_bytes o)) is ∙ ap length (append-nil (bytes_of 8 first))
    ∙ length-bytes_of 8 first

pub two_words : (words : Words) (word : ℕ) → words.second ≡ Some word → 16 ≡ length (words_bytes words)
two_words words word is = sym (long-by words.first words.second word is)

pub one_word : (words : Words) → words.second ≡ None → 8 ≡ length (words_bytes words)
one_word words is = sym (short-by words.first words.second is)

module _ (whole : List ℕ) (from place : ℕ) (words : Words) (window : List ℕ) where
  -- both words are written
  pub both_shown : (word : ℕ) → words.second ≡ Some word → place + length (words_bytes words) ≤ length whole
      → IsWindow (splice (place + 8) (bytes_of 8 word) (splice place (bytes_of 8 words.first) whole)) from window
      → IsWindow (splice place (words_bytes words) whole) from window
  both_shown word is inside =
      subst (λ (b : List ℕ). IsWindow b from window)
      (splice_more place (place + 8) (bytes_of 8 words.first) (bytes_of 8 word) whole
      (let one = length-bytes_of 8 words.first in omega (arith, one)) (omega (arith, inside))
      ∙ ap (λ o. splice place (bytes_of 8 words.first ++ second_bytes o) whole) (sym is))
