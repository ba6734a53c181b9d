-- A reader of transcripts: what their text says of a line and of an event. It watches `transcript_text` and the
-- definitions under it (transcript_text, `Texts` and `OutcomeWords`), and shares no name with them.
use Rattle.std.specs.Prelude.{ℕ, Bool, true, false, ◌&&◌, ◌==◌, List, [], ◌∷◌, length, take, drop, codes}
use Rattle.std.specs.Prelude.{Option, Some, None, if◌then◌else◌}
use Rattle.std.specs.List.{slice_split}
use Rattle.std.specs.Option.{option_map, option_and_then, option_or}
use Rattle.std.specs.Str.{bytes_eq}
use Rattle.job_text.specs.Images.{image_number}
use Rattle.job_text.specs.declared.images.Image.{Image}
use Rattle.module_table.specs.declared.events.Event.{Event}
use Rattle.transcript_text.specs.declared.outcomes.Line.{Line}
use Rattle.transcript_text.specs.declared.outcomes.LineFault.{LineFault}
use Rattle.transcript_text.specs.declared.outcomes.LineFault.TheVariants as fault
use Rattle.transcript_text.specs.declared.outcomes.LineRefusal.{LineRefusal}
use Rattle.transcript_text.specs.declared.outcomes.LineRefusal.TheVariants as refusal
use Rattle.transcript_text.specs.declared.outcomes.Outcome.{Outcome}
use Rattle.transcript_text.specs.declared.outcomes.Outcome.TheVariants as outcome
use Rattle.transcript_laws.specs.Numerals.{read_number}

-- ** words

-- the lines of a text
abbrev pub lines_in : List ℕ → List (List ℕ)
lines_in text = slice_split (λ b. b == 10) text

-- the words of a line
abbrev pub words_in : List ℕ → List (List ℕ)
words_in line = slice_split (λ b. b == 32) line

-- what stands behind a letter
abbrev pub behind : List ℕ → List ℕ → Option (List ℕ)
behind letter word = if bytes_eq (take 1 word) letter then Some (drop 1 word) else None

-- the number behind a letter
abbrev pub number_behind : List ℕ → List ℕ → Option ℕ
number_behind letter word = option_and_then (read_number 10) (behind letter word)

-- whether this number stands behind a letter
abbrev pub is_number : ℕ → Option ℕ → Bool
is_number n None = false
is_number n (Some m) = m == n

abbrev pub says : List ℕ → ℕ → List ℕ → Bool
says letter n word = is_number n (number_behind letter word)

-- both values, if there are both
abbrev pub both : {A B C : Type 0} → (A → B → C) → Option A → Option B → Option C
both f None b = None
both f (Some a) None = None
both f (Some a) (Some b) = Some (f a b)

-- ** a line's points and outcome

-- the numbers that words write
unfoldable pub numbers_in : List (List ℕ) → Option (List ℕ)
numbers_in [] = Some []
numbers_in (word ∷ more) = both ◌∷◌ (read_number 10 word) (numbers_in more)

-- numbers between commas
abbrev pub listed : List ℕ → Option (List ℕ)
listed word = if length word == 0 then Some [] else numbers_in (slice_split (λ b. b == 44) word)

-- the points: `g`, and numbers between commas
abbrev pub points_in : List ℕ → Option (List ℕ)
points_in word = option_and_then listed (behind (codes "g") word)

-- bytes of two hexadecimal digits
unfoldable pub bytes_in : List ℕ → Option (List ℕ)
bytes_in [] = Some []
bytes_in (high ∷ []) = None
bytes_in (high ∷ low ∷ more) = both ◌∷◌ (read_number 16 (high ∷ low ∷ [])) (bytes_in more)

-- a number of sixteen hexadecimal digits
abbrev pub word_in : List ℕ → Option ℕ
word_in digits = if length digits == 16 then read_number 16 digits else None

-- why a line was refused
unfoldable pub refusal_in : List ℕ → Option LineRefusal
refusal_in word =
    if bytes_eq word (codes "unknown") then Some refusal.Unknown
    else if bytes_eq word (codes "full") then Some refusal.Full
    else if bytes_eq word (codes "static-full") then Some refusal.StaticFull
    else if bytes_eq word (codes "permanent") then Some refusal.Permanent
    else if bytes_eq word (codes "not-open") then Some refusal.NotOpen
    else if bytes_eq word (codes "symbol") then Some refusal.Symbol
    else if bytes_eq word (codes "length") then Some refusal.Length
    else None

-- why a call ended early
unfoldable pub fault_in : List ℕ → Option LineFault
fault_in word =
    if bytes_eq word (codes "address") then Some fault.Address
    else if bytes_eq word (codes "code") then Some fault.Code
    else if bytes_eq word (codes "unloaded") then Some fault.Unloaded
    else if bytes_eq word (codes "steps") then Some fault.Steps
    else None

-- an outcome of two words: `= VALUE`, `opened INSTANCE`, `bytes BYTES`, `refused WHY`, `fault WHY`
unfoldable pub outcome_of_two : List ℕ → List ℕ → Option Outcome
outcome_of_two first second =
    if bytes_eq first (codes "=") then option_map outcome.Returned (word_in second)
    else if bytes_eq first (codes "opened") then option_map outcome.Opened (read_number 10 second)
    else if bytes_eq first (codes "bytes") then option_map outcome.Bytes (bytes_in second)
    else if bytes_eq first (codes "refused") then option_map outcome.Refused (refusal_in second)
    else if bytes_eq first (codes "fault") then option_map outcome.Fault (fault_in second)
    else None

-- an outcome of one word: `closed`, or `bytes` where none are shown
unfoldable pub outcome_of_one : List ℕ → Option Outcome
outcome_of_one first =
    if bytes_eq first (codes "closed") then Some outcome.Closed
    else if bytes_eq first (codes "bytes") then Some (outcome.Bytes [])
    else None

abbrev pub outcome_in : List (List ℕ) → Option Outcome
outcome_in [] = None
outcome_in (first ∷ []) = outcome_of_one first
outcome_in (first ∷ second ∷ []) = outcome_of_two first second
outcome_in (first ∷ second ∷ third ∷ more) = None

-- ** lines and events

abbrev pub line_with : List ℕ → Outcome → Line
line_with points outcome = record { points = points; outcome = outcome }

-- line k of a thread, if these are its words: `tTHREAD lK gPOINTS OUTCOME`
unfoldable pub line_said : ℕ → ℕ → List (List ℕ) → Option Line
line_said thread k [] = None
line_said thread k (first ∷ []) = None
line_said thread k (first ∷ second ∷ []) = None
line_said thread k (first ∷ second ∷ third ∷ rest) =
    if says (codes "t") thread first && says (codes "l") k second
    then both line_with (points_in third) (outcome_in rest) else None

-- `open` or `close`
unfoldable pub opens_in : List ℕ → Option Bool
opens_in word =
    if bytes_eq word (codes "open") then Some true
    else if bytes_eq word (codes "close") then Some false
    else None

-- who did something, and what was done
abbrev pub event_with : ℕ × ℕ → Bool × ℕ → Event
event_with who what = record { thread = who.0; line = who.1; opens = what.0; image = what.1 }

-- event n over these images, if these are its words: `eN tTHREAD lLINE open IMAGE`, or with `close`
unfoldable pub event_said : List Image → ℕ → List (List ℕ) → Option Event
event_said images n (number ∷ thread ∷ line ∷ kind ∷ name ∷ []) =
    if says (codes "e") n number
    then both event_with (both (λ a b. (a, b)) (number_behind (codes "t") thread) (number_behind (codes "l") line))
    (both (λ a b. (a, b)) (opens_in kind) (image_number images name))
    else None
event_said images n words = None

-- ** the whole text

-- the first answer
unfoldable pub first_said : {X Y : Type 0} → (X → Option Y) → List X → Option Y
first_said f [] = None
first_said f (x ∷ xs) = option_or (f x) (first_said f xs)

-- line k of a thread, as a text has it
abbrev pub line_read : List ℕ → ℕ → ℕ → Option Line
line_read text thread k = first_said (λ line. line_said thread k (words_in line)) (lines_in text)

-- event n, as a text has it
abbrev pub event_read : List Image → List ℕ → ℕ → Option Event
event_read images text n = first_said (λ line. event_said images n (words_in line)) (lines_in text)
