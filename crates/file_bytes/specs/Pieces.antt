-- The pieces of a file.
use Rattle.std.specs.Prelude.{ℕ, ◌≤◌, List, ◌++◌, All, flat_map, length}

-- the bytes of a file that is made piece by piece: its first bytes, the pieces after them, and its last bytes
pub record PiecesView : Type 0 where
  pub front : List ℕ
  pub pieces : List (List ℕ)
  pub back : List ℕ

-- the bytes of pieces, one piece after another
abbrev pub joined : List (List ℕ) → List ℕ
joined = flat_map (λ piece. piece)

-- the bytes of the file
abbrev pub whole : PiecesView → List ℕ
whole file = file.front ++ (joined file.pieces ++ file.back)

-- there is room for each of the pieces by itself
abbrev pub EachFits : ℕ → List (List ℕ) → Type 0
EachFits room = All (λ piece. length piece ≤ room)
