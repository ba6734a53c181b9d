-- The lines of a job, as text, and how far one change goes.
use Rattle.std.specs.Prelude.{◌≡◌, ◌≤◌, ◌⊎◌, ℕ, ◌+◌, List, [], ◌∷◌, ◌++◌, length}
use Rattle.std.specs.List.{All, Contains, flat_map}

-- lines with a line feed behind each
abbrev pub joined : List (List ℕ) → List ℕ
joined lines = flat_map (λ line. line ++ 10 ∷ []) lines

-- a line that is one of these, or this other one
abbrev pub IsFrom : List (List ℕ) → List ℕ → List ℕ → Type 0
IsFrom old other line = Contains old line ⊎ (line ≡ other)

-- lines each of which is one of the old ones, or this other one
abbrev pub AreFrom : List (List ℕ) → List ℕ → List (List ℕ) → Type 0
AreFrom old other new = All (IsFrom old other) new

-- what one change makes of lines: one of them may be a line that was not there, at most one went, and not too many came
pub record IsChange (old new : List (List ℕ)) : Type 0 where
  pub other : List ℕ
  pub from : AreFrom old other new
  pub fewer : length old ≤ length new + 1
  pub more : length new ≤ length old + 12300
