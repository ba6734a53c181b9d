-- When threads of one kind do what threads of another do, while all that they see is of one history.
use Rattle.std.specs.Prelude.{◌*◌, ◌≤◌, List, [], ◌∷◌, Option}
use Rattle.guest_machine.specs.Simulate.{IsSimulated}
use Rattle.thread_blocks.specs.Turns.{Turns, Thread, event_of, turn, with_event}
use Rattle.thread_blocks.specs.TurnsAlike.{SameBegun, SameThread}

-- S, S': what threads hold, L: a line, E: an event. Rel: the relation of states in a run, Wait: at a look in the
-- middle of a line, Rest: between two lines
module _ {S S' L E : Type 0} (Rel Wait Rest : S → S' → Type 0) where
  -- x and y: the turns of threads. event: the event that a line would add after these events. Fine: what may be seen;
  -- it holds for what a line's first look sees, and for that with the line's own event added
  pub record AreAlike (Fine : List E → Type 0) (x : Turns S L E) (y : Turns S' L E) (event : L → List E → Option E)
      : Type 0 where
    -- one step of the first is one to four of the second, which has four times as many
    pub steps : IsSimulated x.steps y.steps Rel Wait Rest
    pub fuel : 4 * x.fuel ≤ y.fuel
    -- a line's first look, and one in its middle
    pub begin : (seen : List E) (line : L) → Fine seen → Fine (with_event seen (event line seen)) → (s : S) (s' : S')
        → Rest s s'
        → SameBegun (λ (e : List E). Rel) (λ (e : List E). Rest) seen (x.begin line seen s) (y.begin line seen s')
    pub resume : (seen : List E) → Fine seen → (s : S) (s' : S') → Wait s s'
        → SameBegun (λ (e : List E). Rel) (λ (e : List E). Rest) seen (x.resume seen s) (y.resume seen s')

module _ {S S' L E : Type 0} (Wait Rest : S → S' → Type 0) where
  -- two threads that have done the same so far and hold what is related, or the first has an unclean line
  abbrev pub SameOne : Thread S L E → Thread S' L E → Type 0
  SameOne t t' = SameThread (λ (e : List E). Wait) (λ (e : List E). Rest) t t'

module _ {S L E : Type 0} (x : Turns S L E) (event : L → List E → Option E) (Fine : List E → Type 0) where
  -- each of these turns of a thread sees what may be seen, also with the event added that the turn adds
  abbrev pub AtHistory : Thread S L E → List (List E) → Type 0
  AtHistory t [] = Unit {0}
  AtHistory t (seen ∷ more) =
      (Fine seen × Fine (with_event seen (event_of event t seen))) × AtHistory (turn x t seen) more
