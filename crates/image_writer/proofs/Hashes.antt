-- The words of a hash table with one bucket, as they are put.
use Rattle.std.proofs.Common.{ℕ, ◌+◌, ◌*◌, ◌≤◌, ◌≡◌, List, ◌∷◌, ◌++◌, length, refl, sym, ap, ◌∙◌, arith, append_assoc}
use Rattle.std.proofs.Common.{length-append}
use Rattle.std.specs.List.{flat_map}
use Rattle.std.proofs.lemmas.List.{append-nil}
use Rattle.elf_records.specs.Fields.{bytes_of, splice}
use Rattle.elf_records.specs.Laws.{length-bytes_of}
use Rattle.image_file.specs.Tabled.{tabled, length-tabled}
use Rattle.image_writer.specs.Tables.{chain, hash_words}
use Rattle.image_writer.specs.Told.{bucket}
use Rattle.image_writer.proofs.Puts.{flat_map-last, length-items, put_next, tabled-next}

-- the first words, and the chains of the symbols below a number
abbrev pub words : ℕ → ℕ → List ℕ
words total number = 1 ∷ total ∷ bucket total ∷ tabled (chain total) number

unfoldable pub words_below : ℕ → ℕ → List ℕ
words_below total number = flat_map (bytes_of 4) (words total number)

-- all of them
pub words_below-all : (total : ℕ) → words_below total total ≡ flat_map (bytes_of 4) (hash_words total)
unfolding words_below hash_words
words_below-all total = refl

-- one more
pub words_below-next : (total number : ℕ)
    → words_below total (number + 1) ≡ words_below total number ++ bytes_of 4 (chain total number)
unfolding words_below
words_below-next total number =
    ap (λ ws. flat_map (bytes_of 4) (1 ∷ total ∷ bucket total ∷ ws)) (tabled-next (chain total) number)
    ∙ flat_map-last (bytes_of 4) (words total number) (chain total number)

-- how many bytes they have
pub length-words_below : (total number : ℕ) → length (words_below total number) ≡ 12 + 4 * number
unfolding words_below
length-words_below total number =
    let all = length-items (bytes_of 4) 4 (words total number) (length-bytes_of 4) in
    let chains = length-tabled (chain total) number in
    omega arith

-- the first three, put one behind the other
pub words_below-start : (total at : ℕ) (bytes first second third : List ℕ) → at ≤ length bytes
    → first ≡ splice at (bytes_of 4 1) bytes → second ≡ splice (at + 4) (bytes_of 4 total) first
    → third ≡ splice (at + 8) (bytes_of 4 (bucket total)) second
    → third ≡ splice at (words_below total 0) bytes
unfolding words_below tabled
words_below-start total at bytes first second third inside one two three =
    let x = bytes_of 4 1 in
    let y = bytes_of 4 total in
    let z = bytes_of 4 (bucket total) in
    let long-x = length-bytes_of 4 1 in
    let long-y = length-bytes_of 4 total in
    let long-xy = length-append x y in
    let both = put_next at (at + 4) x y bytes first second (omega arith) inside one two in
    let all = put_next at (at + 8) (x ++ y) z bytes second third (omega arith) inside both three in
    all ∙ ap (λ ws. splice at ws bytes) (append_assoc x y z ∙ ap (λ ws. x ++ (y ++ ws)) (sym (append-nil z)))

-- one more word, put behind those before it
pub words_below-put : (total number at word : ℕ) (bytes out new : List ℕ) → at ≤ length bytes
    → word ≡ chain total number → out ≡ splice at (words_below total number) bytes
    → new ≡ splice (at + 12 + 4 * number) (bytes_of 4 word) out
    → new ≡ splice at (words_below total (number + 1)) bytes
words_below-put total number at word bytes out new inside is was wrote =
    let long = length-words_below total number in
    put_next at (at + 12 + 4 * number) (words_below total number) (bytes_of 4 (chain total number)) bytes out new
    (omega arith) inside was (wrote ∙ ap (λ w. splice (at + 12 + 4 * number) (bytes_of 4 w) out) is)
    ∙ ap (λ ws. splice at ws bytes) (sym (words_below-next total number))
