-- The lines of a text, and the words of a line.
use Rattle.std.specs.Prelude.{ℕ, Bool, not, ◌&&◌, ◌||◌, ◌==◌, nat_le, List, [], length, filter, slice_index}
use Rattle.std.specs.Prelude.{slice_index_or}
use Rattle.std.specs.List.{slice_split, list_all}

-- the lines: what stands between the line feeds
abbrev pub lines_of : List ℕ → List (List ℕ)
lines_of text = slice_split (λ b. b == 10) text

-- a line that has no word, since each of its bytes is a space
abbrev pub is_blank : List ℕ → Bool
is_blank line = list_all (λ b. b == 32) line

-- a line that is not read: its first byte is `#`, or it has no word
abbrev pub is_skipped : List ℕ → Bool
is_skipped line = (slice_index line 0 == 35) || is_blank line

-- a printable ASCII character
abbrev pub is_printable : ℕ → Bool
is_printable b = nat_le 32 b && nat_le b 126

-- a line of printable ASCII characters
abbrev pub is_text : List ℕ → Bool
is_text line = list_all is_printable line

-- whether a word has a byte
abbrev pub has_bytes : List ℕ → Bool
has_bytes word = not (length word == 0)

-- the words of a line: what stands between its spaces and has a byte
unfoldable pub words_of : List ℕ → List (List ℕ)
words_of line = filter has_bytes (slice_split (λ b. b == 32) line)

-- a word, counted from 0; past the last, the empty word
abbrev pub word_at : ℕ → List (List ℕ) → List ℕ
word_at k words = slice_index_or words k []
