-- What a run shows, and its text: a line for each line of each thread, then one for each event.
use Rattle.std.specs.Prelude.{ℕ, ◌+◌, ◌-◌, ◌^◌, List, [], ◌∷◌, ◌++◌, codes, Bool, true, false}
use Rattle.std.specs.List.{flat_map}
use Rattle.std.specs.Fmt.{decimal, digits, padded_integral, format_spec}
use Rattle.hex.specs.Hex.{encode_lower}
pub use Rattle.job_text.specs.Images.{IsImageNumber, image_name}
use Rattle.transcript_text.specs.OutcomeWords.{refusal_text, fault_text}
use Rattle.module_table.specs.declared.events.Event.{Event}
use Rattle.job_text.specs.declared.images.Image.{Image}
use Rattle.transcript_text.specs.declared.outcomes.Line.{Line}
use Rattle.transcript_text.specs.declared.outcomes.Outcome.{Outcome}
use Rattle.transcript_text.specs.declared.outcomes.Outcome.TheVariants.{Returned, Opened, Closed, Bytes, Refused}
use Rattle.transcript_text.specs.declared.outcomes.Outcome.TheVariants.{Fault}

-- the lines of each thread, thread 1 first, and the history of the modules
pub record Shown : Type 0 where
  pub threads : List (List Line)
  pub events : List Event

-- a number as 16 hexadecimal digits
abbrev pub hex16 : ℕ → List ℕ
hex16 n = padded_integral (format_spec 32 0 4 16 (2 ^ 64 - 1)) false [] (digits 16 false n)

-- the bytes of a peek, each as two hexadecimal digits; without bytes there is no space
unfoldable pub bytes_text : List ℕ → List ℕ
bytes_text [] = codes "bytes"
bytes_text (b ∷ bs) = codes "bytes " ++ encode_lower (b ∷ bs)

-- the outcome of a line
unfoldable pub outcome_text : Outcome → List ℕ
outcome_text (Returned value) = codes "= " ++ hex16 value
outcome_text (Opened instance) = codes "opened " ++ decimal instance
outcome_text Closed = codes "closed"
outcome_text (Bytes bytes) = bytes_text bytes
outcome_text (Refused refusal) = codes "refused " ++ refusal_text refusal
outcome_text (Fault fault) = codes "fault " ++ fault_text fault

-- points, separated by commas
unfoldable pub points_text : List ℕ → List ℕ
points_text [] = []
points_text (p ∷ ps) = decimal p ++ flat_map (λ q. codes "," ++ decimal q) ps

-- the text of line k of a thread
unfoldable pub line_text : ℕ → ℕ → Line → List ℕ
line_text thread k line =
    codes "t" ++ decimal thread ++ codes " l" ++ decimal k ++ codes " g" ++ points_text line.points ++ codes " "
    ++ outcome_text line.outcome ++ codes "\n"

-- the lines of a thread, from its line k on
unfoldable pub lines_text : ℕ → ℕ → List Line → List ℕ
lines_text thread k [] = []
lines_text thread k (line ∷ more) = line_text thread k line ++ lines_text thread (k + 1) more

-- the lines of the threads from this one on
unfoldable pub threads_text : ℕ → List (List Line) → List ℕ
threads_text thread [] = []
threads_text thread (lines ∷ more) = lines_text thread 1 lines ++ threads_text (thread + 1) more

-- the word for what an event did
abbrev pub event_word : Bool → List ℕ
event_word true = codes "open"
event_word false = codes "close"

-- the line of event n
unfoldable pub event_text : List Image → ℕ → Event → List ℕ
event_text images n event =
    codes "e" ++ decimal n ++ codes " t" ++ decimal event.thread ++ codes " l" ++ decimal event.line ++ codes " "
    ++ event_word event.opens ++ codes " " ++ image_name images event.image ++ codes "\n"

-- the lines of the events from event n on
unfoldable pub events_text : List Image → ℕ → List Event → List ℕ
events_text images n [] = []
events_text images n (event ∷ more) = event_text images n event ++ events_text images (n + 1) more

-- the text of a transcript over these images
unfoldable pub transcript_text : List Image → Shown → List ℕ
transcript_text images shown = threads_text 1 shown.threads ++ events_text images 0 shown.events
