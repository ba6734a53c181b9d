-- A stack whose deepest bytes are all alike.
use Rattle.std.specs.Prelude.{◌≡◌, ◌≤◌, ℕ, ◌-◌, ◌++◌, List, [], ◌∷◌, length, replicate, reverse}
use Rattle.std.specs.Vec.{vec_capacity, vec_len}
use Rattle.job_meaning.specs.declared.values.Byte.{Byte}
use Rattle.job_meaning.specs.declared.values.Byte.TheVariants.{Value}
use Rattle.marked_memory.specs.declared.stack.MarkedStack.TheInside.{Inside}

-- the `size` bytes of a stack, the highest first: those of `top`, and then `deep` for each of the rest
unfoldable pub down_from : ℕ → Byte → List Byte → List Byte
down_from size deep top = top ++ replicate (size - length top) deep

-- the same, the lowest first
unfoldable pub stack_of : ℕ → Byte → List Byte → List Byte
stack_of size deep top = reverse (down_from size deep top)

-- no more bytes are stored than the stack has, and there is room for all
pub record IsStack (s : Inside) : Type 0 where
  pub within : length s.top.items ≤ s.size
  pub few : s.size ≤ 65536
  pub kept : vec_len s.top ≡ length s.top.items
  pub room : s.size ≤ vec_capacity s.top

-- the return address of a call, the highest byte first
abbrev pub last_bytes : List Byte
last_bytes = Value 0 ∷ Value 0 ∷ Value 0 ∷ Value 0 ∷ Value 0 ∷ Value 0 ∷ Value 0x20 ∷ Value 0 ∷ []
