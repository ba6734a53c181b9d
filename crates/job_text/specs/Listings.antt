-- Lists that have each thing of a kind exactly once.
use Rattle.std.specs.Prelude.{◌≢◌, List}
use Rattle.std.specs.List.{All, AllPairs, Contains}

-- a list of exactly the things for which P holds, each of them once
pub record IsListOf {X : Type 0} (P : X → Type 0) (list : List X) : Type 0 where
  pub only : All P list
  pub every : (x : X) → P x → Contains list x
  pub once : AllPairs (λ a b. a ≢ b) list
