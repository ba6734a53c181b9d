-- What a sink was given, and how a put changes it.
use Rattle.std.specs.Prelude.{◌≡◌, ℕ, ◌+◌, List, ◌++◌, take, Option, None}
use Rattle.std.specs.Option.{option_map}

-- a sink that does not show its bytes
abbrev pub untold_bytes : Option (List ℕ)
untold_bytes = None

-- the bytes, and then the whole piece
abbrev pub with_piece : List ℕ → Option (List ℕ) → Option (List ℕ)
with_piece piece = option_map (λ bytes. bytes ++ piece)

-- the bytes grew by a prefix of the piece
abbrev pub AddsFront : Option (List ℕ) → List ℕ → Option (List ℕ) → Type 0
AddsFront before piece now = (k : ℕ) × (now ≡ option_map (λ bytes. bytes ++ take k piece) before)

-- a sink that does not show how many pieces it was given
abbrev pub untold_pieces : Option ℕ
untold_pieces = None

-- one piece more
abbrev pub next_piece : Option ℕ → Option ℕ
next_piece = option_map (λ pieces. pieces + 1)
