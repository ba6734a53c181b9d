-- What threads do, turn by turn: a turn is a look at the events so far and the private steps up to the next look.
use Rattle.std.specs.Prelude.{ℕ, zero, suc, ◌+◌, ◌-◌, ◌*◌, List, [], ◌∷◌, ◌++◌, length, replicate, slice_set, Option}
use Rattle.std.specs.Prelude.{Some, None, option_and_then}
pub use Rattle.job_text.specs.Numbering.{at_number}
use Rattle.guest_operands.specs.declared.stop.Stop.{Stop}
use Rattle.guest_machine.specs.Run.{Stepping, Outcome, Ended, Waits, run}
use Rattle.transcript_text.specs.declared.outcomes.Outcome.{Outcome as Answer}
use Rattle.std.specs.Prelude.{◌≡◌}

-- how a line ended: with an answer, or as the machine stopped
pub data Ending : Type 0 where
  Answered : Answer → Ending
  Stopped : Stop → Ending

-- a line that is over: the number of events that each of its looks saw, and how it ended
pub record Said : Type 0 where
  pub points : List ℕ
  pub ending : Ending

-- the result of a look: the line's end, or steps from a state on
pub data Begun (S : Type 0) : Type 0 where
  Says : Ending → S → Begun S
  Calls : S → Begun S

-- S: what a thread holds, L: a line, E: an event
pub record Turns (S L E : Type 0) : Type 0 where
  pub steps : Stepping S
  -- the most steps of a line
  pub fuel : ℕ
  -- a line's first look, at the events that it sees
  pub begin : L → List E → S → Begun S
  -- a look in the middle of a line
  pub resume : List E → S → Begun S

-- where a thread is: between two lines, or at a look in the middle of one, with the steps left (the look's own step is
-- still to be counted) and the looks so far
pub data Phase (S : Type 0) : Type 0 where
  Idle : S → Phase S
  Mid : ℕ → List ℕ → S → Phase S

pub record Thread (S L E : Type 0) : Type 0 where
  -- the lines that are not begun
  pub todo : List L
  pub phase : Phase S
  -- the lines that are over
  pub said : List Said
  -- the events at its last look
  pub seen : List E

-- a list with an element added at its end
abbrev pub with_last : {X : Type 0} → List X → X → List X
with_last xs x = xs ++ x ∷ []

module _ {S L E : Type 0} where
  -- a thread whose line is over
  abbrev pub over_with : List L → List Said → List E → List ℕ → Ending → S → Thread S L E
  over_with todo said seen points ending s = record {
    todo = todo;
    phase = Idle s;
    said = with_last said (record { points = points; ending = ending });
    seen = seen;
  }

  -- a thread after a run
  abbrev pub after_run : List L → List Said → List E → List ℕ → Outcome S → Thread S L E
  after_run todo said seen points (Ended stop left s) = over_with todo said seen points (Stopped stop) s
  after_run todo said seen points (Waits left s) =
      record { todo = todo; phase = Mid left points s; said = said; seen = seen }

module _ {S L E : Type 0} (x : Turns S L E) where
  -- a thread after a look, with this many steps left
  abbrev pub after_look : ℕ → List L → List Said → List E → List ℕ → Begun S → Thread S L E
  after_look steps todo said seen points (Says ending s) = over_with todo said seen points ending s
  after_look steps todo said seen points (Calls s) = after_run todo said seen points (run x.steps steps s)

  -- a turn of a thread that saw the events `old` and now sees `seen`; a finished thread is left as it is
  abbrev pub turn_at : List L → Phase S → List Said → List E → List E → Thread S L E
  turn_at [] (Idle s) said old seen = record { todo = []; phase = Idle s; said = said; seen = old }
  turn_at (line ∷ todo) (Idle s) said old seen =
      after_look x.fuel todo said seen (length seen ∷ []) (x.begin line seen s)
  turn_at todo (Mid left points s) said old seen =
      after_look (left - 1) todo said seen (with_last points (length seen)) (x.resume seen s)

  abbrev pub turn : Thread S L E → List E → Thread S L E
  turn t seen = turn_at t.todo t.phase t.said t.seen seen

  -- turns, each at its own events
  abbrev pub turns : Thread S L E → List (List E) → Thread S L E
  turns t [] = t
  turns t (seen ∷ more) = turns (turn t seen) more

-- the line that a thread's next turn begins, if it begins one
abbrev pub next_line : {S L : Type 0} → List L → Phase S → Option L
next_line (line ∷ todo) (Idle s) = Some line
next_line todo phase = None

-- the history with an event, if there is one
abbrev pub with_event : {E : Type 0} → List E → Option E → List E
with_event events None = events
with_event events (Some e) = with_last events e

-- in place of what has a number, counted from 1, another
abbrev pub with_number : {X : Type 0} → List X → ℕ → X → List X
with_number xs zero x = xs
with_number xs (suc i) x = slice_set xs i x

-- the event of a thread's next turn
abbrev pub event_of : {S L E : Type 0} → (L → List E → Option E) → Thread S L E → List E → Option E
event_of event t events = option_and_then (λ line. event line events) (next_line t.todo t.phase)

-- nothing is left to do
abbrev pub IsFinished : {S L : Type 0} → List L → Phase S → Type 0
IsFinished [] (Idle s) = Unit {0}
IsFinished todo phase = ⊥

-- enough turns for this many lines: each line has its first look, and each look in its middle takes a step
abbrev pub enough : ℕ → ℕ → ℕ
enough fuel lines = (fuel + 2) * lines

-- the most turns that a thread still takes
abbrev pub turns_left : {S L : Type 0} → ℕ → List L → Phase S → ℕ
turns_left fuel todo (Idle s) = enough fuel (length todo)
turns_left fuel todo (Mid left points s) = enough fuel (length todo) + (left + 1)

-- the threads finish one after another, from thread i on
abbrev pub finishing : {L : Type 0} → ℕ → ℕ → List (List L) → List ℕ
finishing fuel i [] = []
finishing fuel i (lines ∷ more) = replicate (enough fuel (length lines)) i ++ finishing fuel (suc i) more

-- the whole order of a job: its own entries, then each thread up to its end
abbrev pub whole_order : {L : Type 0} → ℕ → List (List L) → List ℕ → List ℕ
whole_order fuel lines order = order ++ finishing fuel 1 lines

-- a thread before its first turn
abbrev pub ready : {S L E : Type 0} → S → List L → Thread S L E
ready s lines = record { todo = lines; phase = Idle s; said = []; seen = [] }

abbrev pub IsFront : {E : Type 0} → List E → List E → Type 0
IsFront {E} front whole = (rest : List E) × (whole ≡ front ++ rest)

abbrev pub AllFronts : {E : Type 0} → List (List E) → List E → Type 0
AllFronts [] whole = Unit {0}
AllFronts (front ∷ fronts) whole = IsFront front whole × AllFronts fronts whole
