-- A law over a wrong definition says what is not so of one word, or of one transcript.
use Rattle.std.proofs.Common.{◌≡◌, ℕ, Bool, true, false, List, [], ◌∷◌, Option, Some, None, refl, ap, arith}
use Rattle.std.specs.Prelude.{◌≤◌, ◌==◌, codes, length, Ok}
use Rattle.std.specs.Fmt.{char_count, digits, padded_integral}
use Rattle.std.specs.List.{All, list_any}
use Rattle.std.proofs.lemmas.List.Elements.{All-cons, All-nil}
use Rattle.link_faults.specs.declared.image_kind.ImageKind.TheVariants.{Exe}
use Rattle.job_text.specs.Drafts.{slot_among}
use Rattle.job_text.specs.Grammar.{heading_of, kind_heading}
use Rattle.job_text.specs.Jobs.{JobParts, job_from, job_of}
use Rattle.job_text.specs.LineEffects.{with_text}
use Rattle.job_text.specs.LineFaults.{fault_of}
use Rattle.job_text.specs.Numbers.{number, numeral}
use Rattle.job_text.specs.Words.{words_of}
use Rattle.module_table.specs.declared.events.Event.{Event}
use Rattle.transcript_text.specs.declared.outcomes.Line.{Line}
use Rattle.transcript_text.specs.declared.outcomes.LineFault.TheVariants.{Code, Steps}
use Rattle.transcript_text.specs.declared.outcomes.Outcome.{Outcome}
use Rattle.transcript_text.specs.declared.outcomes.Outcome.TheVariants.{Closed, Fault, Returned}
use Rattle.transcript_text.specs.Texts.{Shown, points_text, transcript_text}
use Rattle.job_grammar_laws.specs.Laws.{NumbersAreWritten}
use Rattle.transcript_laws.specs.Laws.{TextsDetermineTranscripts, TranscriptsAreRead}
use Rattle.transcript_laws.specs.Laws.{FitsEvent, FitsLine, FitsOutcome, FitsThread, IsOver, IsWord}
use Rattle.transcript_laws.specs.Numerals.{read_behind}
use Rattle.transcript_laws.specs.Reader.{event_said, first_said, line_said, numbers_in, opens_in}
use Rattle.transcript_laws.specs.Reader.{outcome_of_one, outcome_of_two}
use Rattle.refuted_definitions.specs.Texts.{NumbersAreWrittenBy, TextsAreRefuted, TextsDetermineTranscriptsBy}
use Rattle.refuted_definitions.specs.Texts.{TranscriptsAreReadBy}

-- ** numbers: where the word is read by the right definition, it is so by the wrong one

module _ (law : NumbersAreWritten) (wrong_number : List ℕ → Option ℕ) (wrong : NumbersAreWrittenBy wrong_number) where
  read_too : (word : List ℕ) (n : ℕ) → number word ≡ Some n → wrong_number word ≡ Some n
  read_too word n is = (wrong word n).1 ((law word n).0 is)

abbrev is_number : ℕ → Option ℕ → Bool
is_number n None = false
is_number n (Some other) = other == n

-- ** a job of one image and one thread, and what it shows

abbrev text : List ℕ
text = codes "image a exe b"

unfoldable job : JobParts
job = record {
  images = record { name = codes "a"; kind = Exe; objects = codes "b" ∷ [] } ∷ [];
  mentions = 1 ∷ [];
  fuel = 100000;
  order = [];
  lines = [] ∷ [];
}

is_job : job_of text ≡ Ok job
unfolding job job_of job_from fault_of heading_of kind_heading with_text words_of slot_among
is_job = refl

abbrev line : Outcome → Line
line outcome = record { points = []; outcome = outcome }

abbrev shows : List Line → List Event → Shown
shows lines events = record { threads = lines ∷ []; events = events }

fits : (outcome : Outcome) → FitsOutcome outcome → FitsLine (line outcome)
fits outcome fit = record { points = All-nil IsWord; outcome = fit }

fit_lines : (lines : List Line) → length lines ≤ 2 → All FitsLine lines → All FitsThread (lines ∷ [])
fit_lines lines few each =
    All-cons FitsThread lines [] (record { few = omega (arith, few); each = each }) (All-nil FitsThread)

is_over : (lines : List Line) → length lines ≤ 2 → All FitsLine lines → IsOver job (shows lines [])
unfolding job
is_over lines few each = record {
  threads = refl;
  few_threads = omega arith;
  lines = fit_lines lines few each;
  few_events = omega arith;
  events = All-nil (FitsEvent job.images);
}

one : (outcome : Outcome) → FitsOutcome outcome → All FitsLine (line outcome ∷ [])
one outcome fit = All-cons FitsLine (line outcome) [] (fits outcome fit) (All-nil FitsLine)

abbrev closing : Event
closing = record { thread = 1; line = 1; opens = false; image = 1 }

closes : IsOver job (shows [] (closing ∷ []))
unfolding job
closes = record {
  threads = refl;
  few_threads = omega arith;
  lines = fit_lines [] (omega arith) (All-nil FitsLine);
  few_events = omega arith;
  events = All-cons (FitsEvent job.images) closing []
      (record { thread = omega arith; line = omega arith; image = (omega arith, omega arith) })
      (All-nil (FitsEvent job.images));
}

-- ** the statements are the laws'

right_reading : TranscriptsAreRead → TranscriptsAreReadBy transcript_text
right_reading law = law

right_texts : TextsDetermineTranscripts → TextsDetermineTranscriptsBy transcript_text
right_texts law = law

-- ** the refutations

abbrev is_steps_fault : Outcome → Bool
is_steps_fault (Fault Steps) = true
is_steps_fault outcome = false

abbrev is_steps : Shown → Bool
is_steps shown = list_any (λ lines. list_any (λ (line : Line). is_steps_fault line.outcome) lines) shown.threads

abbrev opens_first : Option Event → Bool
opens_first None = false
opens_first (Some event) = event.opens

pub texts_refuted : NumbersAreWritten → TextsAreRefuted
unfolding job number numeral first_said line_said event_said points_text numbers_in opens_in outcome_of_one
    outcome_of_two read_behind digits padded_integral char_count
texts_refuted law = record {
  copy = λ word. refl;
  hexadecimal_is_octal = λ wrong.
      let e : false ≡ true = ap (is_number 16) (read_too law _ wrong (codes "0x10") 16 refl) in cc;
  zero_has_a_zero_in_front = λ wrong.
      let e : None ≡ Some 0 = read_too law _ wrong (codes "0") 0 refl in cc;
  numbers_have_63_bits = λ wrong.
      let e : None ≡ Some 9223372036854775808 =
      read_too law _ wrong (codes "9223372036854775808") 9223372036854775808 refl in cc;
  values_are_short = λ wrong.
      let read = wrong text job is_job (shows (line (Returned 1) ∷ []) [])
      (is_over (line (Returned 1) ∷ []) (omega arith) (one (Returned 1) (omega arith))) in
      let e : None ≡ Some (line (Returned 1)) = read.lines 1 1 in cc;
  closes_are_opens = λ wrong.
      let read = wrong text job is_job (shows [] (closing ∷ [])) closes in
      let e : true ≡ false = ap opens_first (read.events 0) in cc;
  lines_are_numbered_by_twos = λ wrong.
      let read = wrong text job is_job (shows (line Closed ∷ line Closed ∷ []) [])
      (is_over (line Closed ∷ line Closed ∷ []) (omega arith)
      (All-cons FitsLine (line Closed) (line Closed ∷ []) (fits Closed (tt {0})) (one Closed (tt {0})))) in
      let e : None ≡ Some (line Closed) = read.lines 1 2 in cc;
  faults_share_a_word = λ wrong.
      let same = wrong text job is_job (shows (line (Fault Steps) ∷ []) []) (shows (line (Fault Code) ∷ []) [])
      (is_over (line (Fault Steps) ∷ []) (omega arith) (one (Fault Steps) (tt {0})))
      (is_over (line (Fault Code) ∷ []) (omega arith) (one (Fault Code) (tt {0}))) refl in
      let e : true ≡ false = ap (λ (shown : Shown). is_steps shown) same in cc;
}
