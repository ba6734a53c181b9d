-- How many steps a line has taken, as a relation: each step counts as one, and so does the answer to a look in its
-- middle. It watches `run` (guest_machine, Run), `turn_at` and `thread_turns` (thread_blocks, Turns and RunTime), and
-- `meaning` and `meant_turns` (whole_meaning, Running and Threads).
use Rattle.std.specs.Prelude.{◌≡◌, ◌⊎◌, ◌++◌, ◌*◌, ℕ, zero, suc, List, [], ◌∷◌, length, map, None}
use Rattle.guest_arithmetic.specs.declared.cause.Cause.{Cause}
use Rattle.guest_arithmetic.specs.declared.cause.Cause.TheVariants as cause
use Rattle.guest_operands.specs.declared.stop.Stop.TheVariants.{Steps, Unclean}
use Rattle.guest_machine.specs.Run.{Ends, Goes, Looks}
use Rattle.module_table.specs.declared.events.Event.{Event}
use Rattle.thread_blocks.specs.Instances.{Loads}
use Rattle.thread_blocks.specs.Lines.{Line}
use Rattle.thread_blocks.specs.RunTime.{Runs, thread_turns}
use Rattle.thread_blocks.specs.Turns.{Calls, Ending, Idle, Said, Stopped, Thread, Turns, turns, with_last}
use Rattle.whole_meaning.specs.Meanings.{Meaning}
use Rattle.whole_meaning.specs.Threads.{Meant, meant_turns}
use Rattle.step_laws.specs.Steps.{HasNoCause}

module _ {S L E : Type 0} (x : Turns S L E) where
  -- ** steps

  -- the step from s leads to u; or it asks for a look, which sees the first of these lists of events, and the answer
  -- leads to u
  abbrev pub StepsTo : S → List (List E) → S → List (List E) → Type 0
  StepsTo s looks u more = ((x.steps.step s ≡ Goes u) × (looks ≡ more))
      ⊎ ((v : S) × ((seen : List E)
      × ((x.steps.step s ≡ Looks v) × (x.resume seen v ≡ Calls u) × (looks ≡ seen ∷ more))))

  -- this many steps lead from s to t, none of them from where the call is over; these are all looks on the way
  abbrev pub Leads : ℕ → S → List (List E) → S → Type 0
  Leads zero s looks t = (s ≡ t) × (looks ≡ [])
  Leads (suc n) s looks t = (x.steps.over s ≡ None)
      × ((u : S) × ((more : List (List E)) × (StepsTo s looks u more × Leads n u more t)))

  -- a call that has taken this many steps, and is not over: its first look, and those in its middle
  pub record HasTaken (steps : ℕ) (line : L) (held : S) (first : List E) (more : List (List E)) (t : S) : Type 0 where
    pub start : S
    pub begins : x.begin line first held ≡ Calls start
    pub leads : Leads steps start more t
    pub goes_on : x.steps.over t ≡ None

  -- ** what a thread says

  -- a thread that will begin a line next
  abbrev pub before : L → List L → S → List Said → List E → Thread S L E
  before line todo held said seen = record { todo = line ∷ todo; phase = Idle held; said = said; seen = seen }

  -- with these looks the thread's line is over, and not as long as one of them is left
  pub record IsSaid (t : Thread S L E) (looks : List (List E)) (line : Said) : Type 0 where
    pub waits : (front rest : List (List E)) (next : List E) → looks ≡ front ++ next ∷ rest
        → (turns x t front).said ≡ t.said
    pub says : (turns x t looks).said ≡ with_last t.said line

-- ** points

-- the points of a line are the numbers of events that its looks saw: one for its first look, and one more for each in
-- its middle
abbrev pub PointsAreLooks : {S L E : Type 0} → Turns S L E → Type 0
PointsAreLooks {S} {L} {E} x = (line : L) (todo : List L) (held : S) (earlier : List Said) (seen first : List E)
    (more : List (List E)) (said : Said)
    → IsSaid x (before x line todo held earlier seen) (first ∷ more) said → said.points ≡ map length (first ∷ more)

-- of the machine's lines, and of those of the meaning
abbrev pub PointsAreTold : Type 0
PointsAreTold = (l : Loads ℕ) (m : Meaning) (thread fuel : ℕ)
    → PointsAreLooks (thread_turns l thread fuel) × PointsAreLooks (meant_turns m thread fuel)

-- ** the last step

-- a line with these looks, of a thread that held this, ends so
abbrev pub EndsSo : {S L E : Type 0} → Turns S L E → L → List L → S → List Said → List E → List (List E) → Ending
    → Type 0
EndsSo x line todo held earlier seen looks ending = IsSaid x (before x line todo held earlier seen) looks
    (record { points = map length looks; ending = ending })

-- a call of the machine ends with `steps` exactly where it has taken four times `fuel` steps and is not over
pub record AreCounted (l : Loads ℕ) (thread fuel : ℕ) (line : Line) (todo : List Line) (held : Runs)
    (earlier : List Said) (seen first : List Event) (more : List (List Event)) : Type 0 where
  pub taken : (place : ℕ)
      → EndsSo (thread_turns l thread fuel) line todo held earlier seen (first ∷ more) (Stopped (Steps place))
      → (t : Runs) × (HasTaken (thread_turns l thread fuel) (4 * fuel) line held first more t
      × (t.after.state.place ≡ place))
  pub said : (t : Runs) → HasTaken (thread_turns l thread fuel) (4 * fuel) line held first more t
      → EndsSo (thread_turns l thread fuel) line todo held earlier seen (first ∷ more)
      (Stopped (Steps t.after.state.place))

abbrev pub MachineStepsAreCounted : Type 0
MachineStepsAreCounted = (l : Loads ℕ) (thread fuel : ℕ) (line : Line) (todo : List Line) (held : Runs)
    (earlier : List Said) (seen first : List Event) (more : List (List Event))
    → AreCounted l thread fuel line todo held earlier seen first more

-- a call of the meaning is unclean for `steps` exactly where it has taken `fuel` steps, is not over, and the next step
-- has no other cause; if it has one, that is the call's
pub record AreMeant (m : Meaning) (thread fuel : ℕ) (line : Line) (todo : List Line) (held : Meant)
    (earlier : List Said) (seen first : List Event) (more : List (List Event)) : Type 0 where
  pub taken : (place : ℕ)
      → EndsSo (meant_turns m thread fuel) line todo held earlier seen (first ∷ more)
      (Stopped (Unclean place cause.Steps))
      → (t : Meant) × (HasTaken (meant_turns m thread fuel) fuel line held first more t
      × HasNoCause ((meant_turns m thread fuel).steps.step t) × (t.after.state.place ≡ place))
  pub said : (t : Meant) → HasTaken (meant_turns m thread fuel) fuel line held first more t
      → HasNoCause ((meant_turns m thread fuel).steps.step t)
      → EndsSo (meant_turns m thread fuel) line todo held earlier seen (first ∷ more)
      (Stopped (Unclean t.after.state.place cause.Steps))
  pub other : (t : Meant) (place : ℕ) (why : Cause)
      → HasTaken (meant_turns m thread fuel) fuel line held first more t
      → (meant_turns m thread fuel).steps.step t ≡ Ends (Unclean place why)
      → EndsSo (meant_turns m thread fuel) line todo held earlier seen (first ∷ more) (Stopped (Unclean place why))

abbrev pub MeantStepsAreCounted : Type 0
MeantStepsAreCounted = (m : Meaning) (thread fuel : ℕ) (line : Line) (todo : List Line) (held : Meant)
    (earlier : List Said) (seen first : List Event) (more : List (List Event))
    → AreMeant m thread fuel line todo held earlier seen first more
