-- How whole writes change the bytes that a writer holds, if those are known.
use Rattle.std.specs.Prelude.{ℕ, List, take, Option}
use Rattle.std.specs.Io.KnownBytes.{Appends}

-- the writer's bytes grew by a prefix of the piece
abbrev pub AppendsFront : Option (List ℕ) → Option (List ℕ) → List ℕ → Type 0
AppendsFront before now piece = (k : ℕ) × Appends before now (take k piece)
