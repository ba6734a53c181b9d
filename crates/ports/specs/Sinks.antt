-- What a sink shows, and how a put changes it.
use Rattle.std.specs.Prelude.{◌≡◌, ℕ, List, Option, Result, Ok, Err}
use Rattle.ports.specs.declared.faults.PutFault.{PutFault}
use Rattle.ports.specs.declared.faults.PutFault.TheVariants as put
use Rattle.ports.specs.Counts.{Counted}
use Rattle.ports.specs.Pieces.{with_piece, AddsFront, next_piece}

-- the bytes so far and the number of pieces, if the sink shows them, and how often it failed and ran out of memory
pub record SinkView : Type 0 where
  pub bytes : Option (List ℕ)
  pub pieces : Option ℕ
  pub faults : ℕ
  pub shortages : ℕ

-- the sink took the whole piece
pub record IsTaken (piece : List ℕ) (old new : SinkView) : Type 0 where
  pub bytes : new.bytes ≡ with_piece piece old.bytes
  pub pieces : new.pieces ≡ next_piece old.pieces
  pub faults : new.faults ≡ old.faults
  pub shortages : new.shortages ≡ old.shortages

-- the sink failed, after a prefix of the piece
pub record IsRefused (piece : List ℕ) (old new : SinkView) : Type 0 where
  pub bytes : AddsFront old.bytes piece new.bytes
  pub pieces : new.pieces ≡ next_piece old.pieces
  pub faults : Counted old.faults new.faults
  pub shortages : new.shortages ≡ old.shortages

-- the sink ran out of memory, after a prefix of the piece
pub record IsShort (piece : List ℕ) (old new : SinkView) : Type 0 where
  pub bytes : AddsFront old.bytes piece new.bytes
  pub pieces : new.pieces ≡ next_piece old.pieces
  pub faults : new.faults ≡ old.faults
  pub shortages : Counted old.shortages new.shortages

-- a put of a piece, by its result
abbrev pub Puts : {T : Type 0} → List ℕ → SinkView → SinkView → Result T PutFault → Type 0
Puts piece old new (Ok x) = IsTaken piece old new
Puts piece old new (Err put.Failed) = IsRefused piece old new
Puts piece old new (Err put.OutOfMemory) = IsShort piece old new
