-- How a command's text reaches the sink, and with which status the program then ends.
use Rattle.std.specs.Prelude.{◌≡◌, ℕ, List, ◌⊎◌, codes}
use Rattle.ports.specs.Sinks.{SinkView, IsTaken, IsRefused, IsShort}

-- the lines that do not depend on the input
abbrev pub memory_line : List ℕ
memory_line = codes "out of memory\n"

abbrev pub store_line : List ℕ
store_line = codes "store fault\n"

abbrev pub usage_line : List ℕ
usage_line = codes "usage\n"

-- one put of a text: its own status if the sink took it, 4 if the sink failed, and 1 if the sink ran out of memory
abbrev pub Says : List ℕ → ℕ → SinkView → SinkView → ℕ → Type 0
Says text own old new code = ((code ≡ own) × IsTaken text old new)
    ⊎ (((code ≡ 4) × IsRefused text old new) ⊎ ((code ≡ 1) × IsShort text old new))

-- a put of a text, and of the line for out of memory if the sink ran out of memory for the text
abbrev pub Delivers : List ℕ → ℕ → SinkView → SinkView → ℕ → Type 0
Delivers text own old new code = ((code ≡ own) × IsTaken text old new)
    ⊎ (((code ≡ 4) × IsRefused text old new)
    ⊎ ((between : SinkView) × (IsShort text old between × Says memory_line 1 between new code)))

-- all that a command puts: a text with its own status that `MaySay` allows, or the line for out of memory. So 1
-- means out of memory, and comes after a prefix of another text only if the sink ran out of memory for that text; 4
-- means that the sink failed; every other status comes with the whole of its text
abbrev pub Delivered : (ℕ → List ℕ → Type 0) → SinkView → SinkView → ℕ → Type 0
Delivered MaySay old new code = Says memory_line 1 old new code
    ⊎ ((own : ℕ) × ((text : List ℕ) × (MaySay own text × Delivers text own old new code)))
