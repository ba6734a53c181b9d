-- The points of a thread: the numbers of events that its looks saw, as its lines tell them.
use Rattle.std.specs.Prelude.{◌≡◌, ◌++◌, ℕ, List, [], ◌∷◌, length, map, take}
use Rattle.std.specs.List.{flat_map}
use Rattle.thread_blocks.specs.Turns.{IsFinished, Mid, Idle, Phase, Said, Thread, Turns, turn, turns}
use Rattle.thread_blocks.specs.Turns.{AllFronts}

-- the points that lines tell, one line after the other
abbrev pub points_of : List Said → List ℕ
points_of said = flat_map (λ (line : Said). line.points) said

-- those of the line in whose middle a thread waits, which is not over yet
abbrev pub points_so_far : {S : Type 0} → Phase S → List ℕ
points_so_far (Idle s) = []
points_so_far (Mid left points s) = points

module _ {S L E : Type 0} where
  -- all points of a thread
  abbrev pub points_in : Thread S L E → List ℕ
  points_in t = points_of t.said ++ points_so_far t.phase

  -- turns of a thread that has something left to do at each of them
  abbrev pub AreTaken : Turns S L E → Thread S L E → List (List E) → Type 0
  AreTaken x t [] = Unit {0}
  AreTaken x t (seen ∷ more) = (IsFinished t.todo t.phase → ⊥) × AreTaken x (turn x t seen) more

-- the points that a thread's lines tell are the numbers of events that its turns saw, in their order
abbrev pub PointsKeep : (S L E : Type 0) → Type 0
PointsKeep S L E = (x : Turns S L E) (all : List (List E)) (t : Thread S L E) → AreTaken x t all
    → points_in (turns x t all) ≡ points_in t ++ map length all

-- so, if these are fronts of a history, what the turns saw can be rebuilt from the numbers
abbrev pub FrontsAreTold : Type 0 → Type 0
FrontsAreTold E = (all : List (List E)) (history : List E) → AllFronts all history
    → map (λ (point : ℕ). take point history) (map length all) ≡ all
