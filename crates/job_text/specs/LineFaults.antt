-- When a line has a fault: each kind by itself, and their order.
use Rattle.std.specs.List.{list_any}
use Rattle.std.specs.Prelude.{ℕ, ◌==◌, Bool, true, false, not, ◌&&◌, ◌||◌, nat_lt, if◌then◌else◌, List, length, drop}
use Rattle.std.specs.Prelude.{Option, Some, None, is_some, is_none}
use Rattle.job_text.specs.Drafts.{Declared, image_count, slot_of}
use Rattle.job_text.specs.Grammar.{has_its_words, heading_of, is_image_name, is_short_name}
use Rattle.job_text.specs.Numbers.{number, number_within}
use Rattle.job_text.specs.Words.{is_skipped, is_text, word_at, words_of}
use Rattle.job_text.specs.declared.fault.JobFaultKind.TheVariants as kind
use Rattle.job_text.specs.declared.fault.JobFaultKind.{JobFaultKind}
use Rattle.job_text.specs.declared.grammar.Heading.TheVariants as heading
use Rattle.job_text.specs.declared.grammar.Heading.{Heading}
use Rattle.job_text.specs.declared.grammar.Verb.TheVariants as verb
use Rattle.job_text.specs.declared.grammar.Verb.{Verb}
use Rattle.link_faults.specs.declared.image_kind.ImageKind.TheVariants as image
use Rattle.link_faults.specs.declared.image_kind.ImageKind.{ImageKind}

-- the thread that a word names, if it is declared so far
abbrev pub thread_named : Declared → List ℕ → Option ℕ
thread_named d word = number_within 1 (length d.lines) word

-- an executable program or a position-independent one; a job has one program
abbrev pub is_program : ImageKind → Bool
is_program image.Exe = true
is_program image.Pie = true
is_program image.Start = false
is_program image.Late = false

-- whether the line is an image's
abbrev pub is_image : Heading → Bool
is_image (heading.Image kind) = true
is_image heading = false

-- Count: a wrong number of words, a 65th image, or a line past the 65,536th
abbrev pub is_miscounted : Declared → ℕ → Heading → ℕ → Bool
is_miscounted d number heading count =
    not (has_its_words heading count) || (is_image heading && (image_count d == 64)) || nat_lt 65536 number

-- the numbers after a verb: the arguments of a call are its words 4, 5 and 6
abbrev pub has_bad_operand : Verb → List (List ℕ) → Bool
has_bad_operand verb.Call words =
    is_none (number (word_at 4 words)) || is_none (number (word_at 5 words)) || is_none (number (word_at 6 words))
has_bad_operand verb.Peek words = is_none (number_within 0 4096 (word_at 4 words))
has_bad_operand verb words = false

-- Number: one that is malformed or out of its range
abbrev pub has_bad_number : Declared → Heading → List (List ℕ) → Bool
has_bad_number d heading.Threads words = is_none (number_within 1 64 (word_at 1 words))
has_bad_number d heading.Fuel words = is_none (number_within 1 4294967295 (word_at 1 words))
has_bad_number d heading.Order words = list_any (λ word. is_none (thread_named d word)) (drop 1 words)
has_bad_number d (heading.Thread verb) words =
    is_none (thread_named d (word_at 0 words)) || has_bad_operand verb words
has_bad_number d heading words = false

-- a symbol that is too long, word 3 of the line of a thread; an open and a close have none
abbrev pub has_long_symbol : Verb → List (List ℕ) → Bool
has_long_symbol verb.Open words = false
has_long_symbol verb.Close words = false
has_long_symbol verb words = not (is_short_name (word_at 3 words))

-- the names of an image's objects, from its word 3 on
abbrev pub has_long_object : List (List ℕ) → Bool
has_long_object words = list_any (λ word. not (is_short_name word)) (drop 3 words)

-- Name: one that is malformed or too long, or an image that no earlier line declares
abbrev pub has_bad_name : Declared → Heading → List (List ℕ) → Bool
has_bad_name d (heading.Image kind) words = not (is_image_name (word_at 1 words)) || has_long_object words
has_bad_name d (heading.Thread verb) words = has_long_symbol verb words || is_none (slot_of d (word_at 2 words))
has_bad_name d heading words = false

-- Twice: a second image of the name, a second program, or a second `threads`, `fuel` or `order`
abbrev pub is_second : Declared → Heading → List (List ℕ) → Bool
is_second d (heading.Image kind) words =
    is_some (slot_of d (word_at 1 words)) || (is_program kind && is_some d.program)
is_second d heading.Threads words = d.has_threads
is_second d heading.Fuel words = is_some d.fuel
is_second d heading.Order words = is_some d.order
is_second d heading words = false

-- the last three kinds, in their order
abbrev pub fault_in_words : Declared → Heading → List (List ℕ) → Option JobFaultKind
fault_in_words d heading words =
    if has_bad_number d heading words then Some kind.Number
    else if has_bad_name d heading words then Some kind.Name
    else if is_second d heading words then Some kind.Twice
    else None

-- the fault of a line of this number, kind and words
abbrev pub fault_under : Declared → ℕ → Option Heading → List (List ℕ) → Option JobFaultKind
fault_under d number None words = Some kind.Word
fault_under d number (Some heading) words =
    if is_miscounted d number heading (length words) then Some kind.Count else fault_in_words d heading words

-- the fault of a line, if it has one: the first of the kinds; a skipped line has none
unfoldable pub fault_of : Declared → ℕ → List ℕ → Option JobFaultKind
fault_of d number line =
    if is_skipped line then None
    else if is_text line then fault_under d number (heading_of (words_of line)) (words_of line)
    else Some kind.NotText

-- the fault of what a line of a thread does, apart from its thread and its image
abbrev pub action_fault : Verb → List (List ℕ) → Option JobFaultKind
action_fault verb words =
    if has_bad_operand verb words then Some kind.Number
    else if has_long_symbol verb words then Some kind.Name
    else None

-- the fault of a symbol
abbrev pub symbol_fault : List (List ℕ) → Option JobFaultKind
symbol_fault words = if not (is_short_name (word_at 3 words)) then Some kind.Name else None
