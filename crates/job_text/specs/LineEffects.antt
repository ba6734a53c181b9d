-- What a line without a fault adds to what is declared.
use Rattle.std.specs.List.{filter_map}
use Rattle.std.specs.Prelude.{ℕ, ◌-◌, true, if◌then◌else◌, List, [], ◌∷◌, ◌++◌, length, drop, replicate, slice_set}
use Rattle.std.specs.Prelude.{slice_index_or, Option, Some, None, unwrap_or}
use Rattle.job_text.specs.Drafts.{Declared, slot_of}
use Rattle.job_text.specs.Grammar.{heading_of}
use Rattle.job_text.specs.Numbers.{number}
use Rattle.job_text.specs.Words.{is_skipped, word_at, words_of}
use Rattle.job_text.specs.declared.draft.Slot.TheVariants as slot
use Rattle.job_text.specs.declared.draft.Plan.{Plan}
use Rattle.job_text.specs.declared.grammar.Heading.TheVariants as heading
use Rattle.job_text.specs.declared.grammar.Heading.{Heading}
use Rattle.job_text.specs.declared.grammar.Verb.TheVariants as verb
use Rattle.job_text.specs.declared.grammar.Verb.{Verb}
use Rattle.job_text.specs.declared.images.Image.{Image}
use Rattle.link_faults.specs.declared.image_kind.ImageKind.TheVariants as image
use Rattle.link_faults.specs.declared.image_kind.ImageKind.{ImageKind}
use Rattle.job_text.specs.declared.thread_lines.Action.TheVariants as action
use Rattle.job_text.specs.declared.thread_lines.Action.{Action}

-- the number that a word of a line without a fault writes
abbrev pub number_at : ℕ → List (List ℕ) → ℕ
number_at k words = unwrap_or (number (word_at k words)) 0

-- an image joins its group, and is mentioned after those before it
abbrev pub with_image : Image → ImageKind → Declared → Declared
with_image added image.Exe d = record d { program = Some added; mentions = d.mentions ++ slot.Program ∷ [] }
with_image added image.Pie d = record d { program = Some added; mentions = d.mentions ++ slot.Program ∷ [] }
with_image added image.Start d =
    record d { starts = d.starts ++ added ∷ []; mentions = d.mentions ++ slot.Start (length d.starts) ∷ [] }
with_image added image.Late d =
    record d { lates = d.lates ++ added ∷ []; mentions = d.mentions ++ slot.Late (length d.lates) ∷ [] }

-- what the line of a thread does
abbrev pub action_of : Verb → List (List ℕ) → Action
action_of verb.Call words = action.Call (word_at 3 words) (number_at 4 words) (number_at 5 words) (number_at 6 words)
action_of verb.Open words = action.Open
action_of verb.Close words = action.Close
action_of verb.Peek words = action.Peek (word_at 3 words) (number_at 4 words)

-- a line joins those of its thread
abbrev pub with_line : ℕ → Plan → Declared → Declared
with_line thread plan d =
    record d { lines = slice_set d.lines (thread - 1) (slice_index_or d.lines (thread - 1) [] ++ plan ∷ []) }

-- what a line without a fault adds
abbrev pub with_words : Heading → List (List ℕ) → Declared → Declared
with_words (heading.Image kind) words d =
    with_image (record { name = word_at 1 words; kind = kind; objects = drop 3 words }) kind d
with_words heading.Threads words d =
    record d { has_threads = true; lines = d.lines ++ replicate (number_at 1 words - 1) [] }
with_words heading.Fuel words d = record d { fuel = number (word_at 1 words) }
with_words heading.Order words d = record d { order = Some (filter_map number (drop 1 words)) }
with_words (heading.Thread verb) words d =
    with_line (number_at 0 words)
    (record { slot = unwrap_or (slot_of d (word_at 2 words)) slot.Program; action = action_of verb words }) d
with_words heading.Short words d = d

-- the same by the line's own words
abbrev pub with_heading : Option Heading → List (List ℕ) → Declared → Declared
with_heading None words d = d
with_heading (Some heading) words d = with_words heading words d

-- what a line without a fault adds; a skipped line adds nothing
unfoldable pub with_text : List ℕ → Declared → Declared
with_text line d = if is_skipped line then d else with_heading (heading_of (words_of line)) (words_of line) d
