-- The kinds of lines, by their first words, and how many words each takes.
use Rattle.std.specs.Prelude.{ℕ, Bool, false, ◌&&◌, ◌||◌, ◌==◌, nat_lt, nat_le, List, length, slice_index, codes}
use Rattle.std.specs.Prelude.{Option, Some, None, if◌then◌else◌}
use Rattle.std.specs.List.{list_all}
use Rattle.std.specs.Str.{bytes_eq}
use Rattle.job_text.specs.Words.{word_at}
use Rattle.job_text.specs.declared.grammar.Heading.{Heading}
use Rattle.job_text.specs.declared.grammar.Heading.TheVariants as heading
use Rattle.job_text.specs.declared.grammar.Verb.TheVariants.{Call, Open, Close, Peek}
use Rattle.link_faults.specs.declared.image_kind.ImageKind.TheVariants.{Exe, Pie, Start, Late}

-- a digit
abbrev pub is_digit_byte : ℕ → Bool
is_digit_byte b = nat_le 48 b && nat_le b 57

-- the word begins with a digit
abbrev pub begins_with_digit : List ℕ → Bool
begins_with_digit word = is_digit_byte (slice_index word 0)

-- an image's line, by the word for its kind
unfoldable pub kind_heading : List ℕ → Option Heading
kind_heading word =
    if bytes_eq word (codes "exe") then Some (heading.Image Exe)
    else if bytes_eq word (codes "pie") then Some (heading.Image Pie)
    else if bytes_eq word (codes "start") then Some (heading.Image Start)
    else if bytes_eq word (codes "late") then Some (heading.Image Late)
    else None

-- a thread's line, by its verb
unfoldable pub verb_heading : List ℕ → Option Heading
verb_heading word =
    if bytes_eq word (codes "call") then Some (heading.Thread Call)
    else if bytes_eq word (codes "open") then Some (heading.Thread Open)
    else if bytes_eq word (codes "close") then Some (heading.Thread Close)
    else if bytes_eq word (codes "peek") then Some (heading.Thread Peek)
    else None

-- the kind of a line: an image's line by its third word, a thread's line by its second; short if that word is
-- missing, and none if it is unknown or the first word begins no line
unfoldable pub heading_of : List (List ℕ) → Option Heading
heading_of words =
    if bytes_eq (word_at 0 words) (codes "image")
    then (if nat_lt (length words) 3 then Some heading.Short else kind_heading (word_at 2 words))
    else if bytes_eq (word_at 0 words) (codes "threads") then Some heading.Threads
    else if bytes_eq (word_at 0 words) (codes "fuel") then Some heading.Fuel
    else if bytes_eq (word_at 0 words) (codes "order") then Some heading.Order
    else if begins_with_digit (word_at 0 words)
    then (if nat_lt (length words) 2 then Some heading.Short else verb_heading (word_at 1 words))
    else None

-- whether a line has the number of words that its kind takes: `image NAME KIND OBJ..`, `threads N`, `fuel N`,
-- `order T T ..`, `T call IMAGE SYM A B C`, `T open IMAGE`, `T close IMAGE`, `T peek IMAGE SYM LEN`
abbrev pub has_its_words : Heading → ℕ → Bool
has_its_words (heading.Image kind) count = nat_le 4 count
has_its_words heading.Threads count = count == 2
has_its_words heading.Fuel count = count == 2
has_its_words heading.Order count = nat_le 2 count
has_its_words (heading.Thread Call) count = count == 7
has_its_words (heading.Thread Open) count = count == 3
has_its_words (heading.Thread Close) count = count == 3
has_its_words (heading.Thread Peek) count = count == 5
has_its_words heading.Short count = false

-- a letter, a digit, `_`, `.` or `-`
abbrev pub is_name_byte : ℕ → Bool
is_name_byte b =
    (nat_le 65 b && nat_le b 90) || (nat_le 97 b && nat_le b 122) || is_digit_byte b || (b == 95) || (b == 46)
    || (b == 45)

-- only such bytes
abbrev pub has_name_bytes : List ℕ → Bool
has_name_bytes word = list_all is_name_byte word

-- 1 to 64 bytes
abbrev pub has_name_length : List ℕ → Bool
has_name_length word = nat_le 1 (length word) && nat_le (length word) 64

-- the name of an image: 1 to 64 such bytes
abbrev pub is_image_name : List ℕ → Bool
is_image_name word = has_name_length word && has_name_bytes word

-- the name of an object or a symbol: at most 255 bytes
abbrev pub is_short_name : List ℕ → Bool
is_short_name word = nat_le (length word) 255
