-- What a sink keeps of its last piece.
use Rattle.std.specs.Prelude.{◌≡◌, ◌⊎◌, ℕ, List, []}

-- a sink, and the last piece that was put into it
pub record KeptState (K : Type 0) : Type 0 where
  pub sink : K
  pub last : List ℕ

-- the last piece is kept, or nothing is
abbrev pub KeepsLast : List ℕ → List ℕ → Type 0
KeepsLast piece last = (last ≡ piece) ⊎ (last ≡ [])
