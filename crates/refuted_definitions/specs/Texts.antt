-- What words and transcripts say (job_text, Numbers; transcript_text, Texts and OutcomeWords), with one word changed.
-- Each makes `numbers_are_written` (job_grammar_laws) or a law of transcript_laws false.
use Rattle.std.specs.Prelude.{◌≡◌, ◌↔◌, ◌+◌, ◌-◌, ◌^◌, ◌++◌, ◌&&◌, ◌==◌, ℕ, Bool, true, false, nat_eq, nat_lt, List}
use Rattle.std.specs.Prelude.{[], ◌∷◌}
use Rattle.std.specs.Prelude.{codes, drop, length, slice_index, Option, Some, None, Ok, if◌then◌else◌}
use Rattle.std.specs.Fmt.{decimal, digits, format_spec, padded_integral}
use Rattle.std.specs.List.{starts_with}
use Rattle.std.specs.Str.Parse.{digits_value}
use Rattle.job_text.specs.Jobs.{JobParts, job_of}
use Rattle.job_text.specs.Numbers.{has_leading_zero, is_numeral, number, numeral}
use Rattle.job_text.specs.declared.images.Image.{Image}
use Rattle.module_table.specs.declared.events.Event.{Event}
use Rattle.transcript_text.specs.declared.outcomes.Line.{Line}
use Rattle.transcript_text.specs.declared.outcomes.LineFault.{LineFault}
use Rattle.transcript_text.specs.declared.outcomes.LineFault.TheVariants.{Address, Code, Steps, Unloaded}
use Rattle.transcript_text.specs.declared.outcomes.Outcome.{Outcome}
use Rattle.transcript_text.specs.declared.outcomes.Outcome.TheVariants.{Bytes, Closed, Fault, Opened, Refused, Returned}
use Rattle.transcript_text.specs.OutcomeWords.{fault_text, refusal_text}
use Rattle.transcript_text.specs.Texts.{Shown, bytes_text, event_word, hex16, image_name, points_text}
use Rattle.job_grammar_laws.specs.Numbers.{Writes}
use Rattle.transcript_laws.specs.Laws.{IsOver, IsReadBack}

-- ** the statements, of any definition

abbrev pub NumbersAreWrittenBy : (List ℕ → Option ℕ) → Type 0
NumbersAreWrittenBy number = (word : List ℕ) (n : ℕ) → (number word ≡ Some n) ↔ Writes word n

abbrev pub TranscriptsAreReadBy : (List Image → Shown → List ℕ) → Type 0
TranscriptsAreReadBy transcript_text = (text : List ℕ) (job : JobParts) → job_of text ≡ Ok job → (shown : Shown)
    → IsOver job shown
    → IsReadBack job.images shown (transcript_text job.images shown)

abbrev pub TextsDetermineTranscriptsBy : (List Image → Shown → List ℕ) → Type 0
TextsDetermineTranscriptsBy transcript_text = (text : List ℕ) (job : JobParts) → job_of text ≡ Ok job
    → (a b : Shown) → IsOver job a → IsOver job b
    → transcript_text job.images a ≡ transcript_text job.images b → a ≡ b

-- ** numbers

-- `number`, over any base behind `0x`, any test of a zero in front, and any numerals
abbrev pub number_by : ℕ → (List ℕ → Bool) → (ℕ → List ℕ → Option ℕ) → List ℕ → Option ℕ
number_by base has_leading_zero numeral word =
    if starts_with nat_eq word (codes "0x") then numeral base (drop 2 word)
    else if has_leading_zero word then None
    else numeral 10 word

-- `has_leading_zero`: the zero alone has one, 0 for 1
abbrev pub begins_with_zero : List ℕ → Bool
begins_with_zero word = (slice_index word 0 == 48) && nat_lt 0 (length word)

-- `numeral`: below 2^63
abbrev pub numeral_of_63 : ℕ → List ℕ → Option ℕ
numeral_of_63 base digits = if is_numeral base digits && nat_lt (digits_value base digits) (2 ^ 63)
    then Some (digits_value base digits) else None

-- ** transcripts

-- `hex16`: fifteen digits for sixteen
abbrev pub hex15 : ℕ → List ℕ
hex15 n = padded_integral (format_spec 32 0 4 15 (2 ^ 64 - 1)) false [] (digits 16 false n)

-- `fault_text`: one word for two faults
abbrev pub fault_text_of_code : LineFault → List ℕ
fault_text_of_code Address = codes "address"
fault_text_of_code Code = codes "code"
fault_text_of_code Unloaded = codes "unloaded"
fault_text_of_code Steps = codes "code"

-- `event_word`: a close is an open
abbrev pub open_word : Bool → List ℕ
open_word true = codes "open"
open_word false = codes "open"

-- `transcript_text`, over any values, words of faults and events, and any step from line to line
module _ (hex16 : ℕ → List ℕ) (fault_text : LineFault → List ℕ) (event_word : Bool → List ℕ) (step : ℕ) where
  abbrev pub outcome_text : Outcome → List ℕ
  outcome_text (Returned value) = codes "= " ++ hex16 value
  outcome_text (Opened instance) = codes "opened " ++ decimal instance
  outcome_text Closed = codes "closed"
  outcome_text (Bytes bytes) = bytes_text bytes
  outcome_text (Refused refusal) = codes "refused " ++ refusal_text refusal
  outcome_text (Fault fault) = codes "fault " ++ fault_text fault

  abbrev pub line_text : ℕ → ℕ → Line → List ℕ
  line_text thread k line =
      codes "t" ++ decimal thread ++ codes " l" ++ decimal k ++ codes " g" ++ points_text line.points ++ codes " "
      ++ outcome_text line.outcome ++ codes "\n"

  abbrev pub lines_text : ℕ → ℕ → List Line → List ℕ
  lines_text thread k [] = []
  lines_text thread k (line ∷ more) = line_text thread k line ++ lines_text thread (k + step) more

  abbrev pub threads_text : ℕ → List (List Line) → List ℕ
  threads_text thread [] = []
  threads_text thread (lines ∷ more) = lines_text thread 1 lines ++ threads_text (thread + 1) more

  abbrev pub event_text : List Image → ℕ → Event → List ℕ
  event_text images n event =
      codes "e" ++ decimal n ++ codes " t" ++ decimal event.thread ++ codes " l" ++ decimal event.line ++ codes " "
      ++ event_word event.opens ++ codes " " ++ image_name images event.image ++ codes "\n"

  abbrev pub events_text : List Image → ℕ → List Event → List ℕ
  events_text images n [] = []
  events_text images n (event ∷ more) = event_text images n event ++ events_text images (n + 1) more

  abbrev pub text_by : List Image → Shown → List ℕ
  text_by images shown = threads_text 1 shown.threads ++ events_text images 0 shown.events

pub record TextsAreRefuted : Type 0 where
  -- with no word changed it is the definition
  pub copy : (word : List ℕ) → number_by 16 has_leading_zero numeral word ≡ number word
  pub hexadecimal_is_octal : NumbersAreWrittenBy (number_by 8 has_leading_zero numeral) → ⊥
  pub zero_has_a_zero_in_front : NumbersAreWrittenBy (number_by 16 begins_with_zero numeral) → ⊥
  pub numbers_have_63_bits : NumbersAreWrittenBy (number_by 16 has_leading_zero numeral_of_63) → ⊥
  pub values_are_short : TranscriptsAreReadBy (text_by hex15 fault_text event_word 1) → ⊥
  pub closes_are_opens : TranscriptsAreReadBy (text_by hex16 fault_text open_word 1) → ⊥
  -- 2 for 1
  pub lines_are_numbered_by_twos : TranscriptsAreReadBy (text_by hex16 fault_text event_word 2) → ⊥
  pub faults_share_a_word : TextsDetermineTranscriptsBy (text_by hex16 fault_text_of_code event_word 1) → ⊥
